-- Lists of a model in ascending order.
use Rattle.std.specs.Prelude.{◌↔◌, ℕ, List, [], length, slice_index_or, All, Contains}
use Rattle.std.specs.List.{AllPairs}
use Rattle.el_logic.specs.Meaning.{IsInterp, pairs_of}
use Rattle.closed_model.specs.Models.{ComesBefore, HasOrderedLists}
use Rattle.model_members.specs.declared.model.ModelLists.{ModelLists}

-- the first pairs are the others turned round
abbrev pub AreTurned : List (ℕ × ℕ) → List (ℕ × ℕ) → Type 0
AreTurned turned pairs = (x y : ℕ) → Contains turned (y, x) ↔ Contains pairs (x, y)

-- an interpretation with lists that ascend, and the pairs of each property turned round
pub record AreOrdered (lists : ModelLists) : Type 0 where
  pub fits : IsInterp (length lists.ordered.classes) (length lists.ordered.roles) lists.ordered
  pub ascending : HasOrderedLists lists.ordered
  pub turned : (role : ℕ) → AreTurned (slice_index_or lists.turned role []) (pairs_of lists.ordered role)
  pub turned_ascending : All (AllPairs ComesBefore) lists.turned
