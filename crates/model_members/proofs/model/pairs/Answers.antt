use Rattle.std.proofs.Common.{◌∙◌, ℕ, List, [], ap, sym, subst}
use Rattle.std.specs.Prelude.{slice_index_or}
use Rattle.std.specs.List.{AllPairs}
use Rattle.closed_model.specs.Models.{ComesBefore}
use Rattle.model_members.proofs.KeyLaws.{pairs_under}
use Rattle.model_members.proofs.model.pairs.Goals as goal

pub returns-clause-ascending : goal.returns-clause-ascending
returns-clause-ascending c =
    subst (AllPairs ComesBefore) (sym (c.pairs_at.ensures ∙ ap (λ (lists : List (List (ℕ × ℕ))). slice_index_or lists c.args.role []) c.as_slice.ensures))
    (pairs_under c.args.lists.now.ordered.roles c.args.role c.requires.ascending.pairs)
