use Rattle.std.proofs.Common.{◌∙◌, ℕ, List, [], ap, sym, subst}
use Rattle.std.specs.Prelude.{slice_index_or}
use Rattle.model_members.specs.Inside.Sets.{AreElements}
use Rattle.model_members.proofs.KeyLaws.{elements_named}
use Rattle.model_members.proofs.model.named.Goals as goal

pub returns-clause-elements : goal.returns-clause-elements
returns-clause-elements c =
    let i = c.args.lists.now.ordered in
    subst (AreElements i.size) (sym (c.numbers_at.ensures ∙ ap (λ (lists : List (List ℕ)). slice_index_or lists c.args.class []) c.as_slice.ensures))
    (elements_named i c.args.class c.requires.fits c.requires.ascending)
