-- Accepting down the ranks.
use Rattle.std.specs.Prelude.{ℕ, zero, suc, ◌<◌, Bool, IsTrue, if◌then◌else◌, List, [], ◌∷◌, ◌++◌, Contains}
use Rattle.conflict_logic.specs.Accused.{IsAccused}
use Rattle.conflict_logic.specs.Repair.{IsRepair}

-- the incoherent sets are those to which the test answers yes
abbrev pub family_of : (List ℕ → Bool) → List ℕ → Type 0
family_of test ranks = IsTrue (test ranks)

-- the ranks kept of those below a bound: a rank is kept unless it is incoherent with those kept
-- before it
abbrev pub kept_below : (List ℕ → Bool) → ℕ → List ℕ
kept_below test zero = []
kept_below test (suc rank) =
    if test (kept_below test rank ++ rank ∷ [])
    then kept_below test rank else kept_below test rank ++ rank ∷ []

-- a repair of which each removed rank is known to be accused
pub record IsExactRepair (incoherent : List ℕ → Type 0) (count : ℕ) (kept : List ℕ) : Type 0 where
  pub repair : IsRepair incoherent count kept
  pub removed_is_accused : (rank : ℕ) → rank < count → ¬ (Contains kept rank)
      → IsAccused incoherent rank
