use Rattle.std.proofs.Common.{◌∙◌, ℕ, List, Contains, sym, subst}
use Rattle.std.specs.Prelude.{◌↔◌}
use Rattle.el_logic.specs.Meaning.{members_of}
use Rattle.model_members.specs.Inside.Sets.{AreElements}
use Rattle.model_members.proofs.classes.members_of_name.Goals as goal

pub returns : goal.returns
returns c =
    let i = c.args.lists.now.ordered in
    let own = members_of i c.args.class in
    record {
      ordered = subst (AreElements i.size) (sym c.in_ok-numbers.ensures) c.named.ensures.elements;
      same = λ x. subst (λ (xs : List ℕ). Contains xs x ↔ Contains own x) (sym (c.in_ok-numbers.ensures ∙ c.named.ensures.list)) ((λ there. there), (λ there. there));
    }
