use Rattle.std.proofs.Common.{◌∙◌, ℕ, List, [], ap, sym, subst}
use Rattle.std.specs.Prelude.{slice_index_or}
use Rattle.std.specs.List.{AllPairs}
use Rattle.el_logic.specs.Meaning.{pairs_of}
use Rattle.closed_model.specs.Models.{ComesBefore}
use Rattle.model_members.specs.Lists.{AreTurned}
use Rattle.model_members.proofs.KeyLaws.{pairs_under}
use Rattle.model_members.proofs.model.turned.Goals as goal

pub returns-clause-list : goal.returns-clause-list
returns-clause-list c =
    subst (λ (turned : List (ℕ × ℕ)). AreTurned turned (pairs_of c.args.lists.now.ordered c.args.role))
    (sym (c.pairs_at.ensures ∙ ap (λ (lists : List (List (ℕ × ℕ))). slice_index_or lists c.args.role []) c.as_slice.ensures)) (c.requires.turned c.args.role)

pub returns-clause-ascending : goal.returns-clause-ascending
returns-clause-ascending c =
    subst (AllPairs ComesBefore) (sym (c.pairs_at.ensures ∙ ap (λ (lists : List (List (ℕ × ℕ))). slice_index_or lists c.args.role []) c.as_slice.ensures))
    (pairs_under c.args.lists.now.turned c.args.role c.requires.turned_ascending)
