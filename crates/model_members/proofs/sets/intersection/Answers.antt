use Rattle.std.proofs.Common.{◌∙◌, ℕ, List, Contains, ap, sym, subst}
use Rattle.model_members.specs.declared.sets.Members.TheVariants.{Listed}
use Rattle.model_members.specs.Inside.Sets.{Has, IsSet, IsSetOf}
use Rattle.model_members.proofs.SetLaws.{of_sets, in_both}
use Rattle.model_members.proofs.sets.intersection.Goals as goal

pub returns : goal.returns
returns c =
    let numbers = c.as_slice.result.now in
    let others = c.as_slice-2.result.now in
    let is_one = c.in-Listed.is ∙ ap Listed (sym c.as_slice.ensures) in
    let is_two = c.in-Listed-other.is ∙ ap Listed (sym c.as_slice-2.ensures) in
    of_sets (λ s o. IsSetOf c.args.size (λ x. Has c.args.size s x × Has c.args.size o x) (Listed c.in_ok-both.both)) c.args.set c.args.other
    (Listed numbers) (Listed others) is_one is_two
    (subst (λ (both : List ℕ). IsSetOf c.args.size (λ x. Contains numbers x × Contains others x) (Listed both)) (sym c.in_ok-both.ensures)
    (in_both c.args.size numbers others (subst (IsSet c.args.size) is_one c.requires.one)))
