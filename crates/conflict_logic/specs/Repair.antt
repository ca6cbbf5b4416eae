-- What is kept once the accused ranks are removed.
use Rattle.std.specs.Prelude.{ℕ, ◌<◌, List, Contains}
use Rattle.std.specs.List.Sorted.{IsStrictlyIncreasing}
use Rattle.conflict_logic.specs.Accused.{IsSpared}

-- of the ranks below the count these, in ascending order, are exactly those that are spared, and
-- together they are coherent
pub record IsRepair (incoherent : List ℕ → Type 0) (count : ℕ) (kept : List ℕ) : Type 0 where
  pub ascending : IsStrictlyIncreasing kept
  pub below : (rank : ℕ) → Contains kept rank → rank < count
  pub coherent : ¬ (incoherent kept)
  pub kept_is_spared : (rank : ℕ) → Contains kept rank → IsSpared incoherent rank
  pub spared_is_kept : (rank : ℕ) → rank < count → IsSpared incoherent rank → Contains kept rank
