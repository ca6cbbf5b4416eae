-- The accused ranks: the local optimal diagnosis.
use Rattle.std.specs.Prelude.{◌≢◌, ℕ, zero, suc, ◌<◌, List, Contains}
use Rattle.conflict_logic.specs.Sets.{IsConflict}

-- some conflict holds the rank, and each other rank of that conflict stands before it and is spared
pub record IsLastOfConflict (incoherent : List ℕ → Type 0) (spared : ℕ → Type 0) (rank : ℕ)
    : Type 0 where
  pub conflict : List ℕ
  pub is_conflict : IsConflict incoherent conflict
  pub held : Contains conflict rank
  pub others : (other : ℕ) → Contains conflict other → other ≢ rank → (other < rank) × spared other

-- the recursion down the ranks: what is accused, asked only below a bound
abbrev pub IsAccusedBelow : (List ℕ → Type 0) → ℕ → ℕ → Type 0
IsAccusedBelow incoherent zero rank = ⊥
IsAccusedBelow incoherent (suc bound) rank =
    IsLastOfConflict incoherent (λ other. ¬ (IsAccusedBelow incoherent bound other)) rank

abbrev pub IsAccused : (List ℕ → Type 0) → ℕ → Type 0
IsAccused incoherent rank = IsAccusedBelow incoherent (suc rank) rank

-- not accused
abbrev pub IsSpared : (List ℕ → Type 0) → ℕ → Type 0
IsSpared incoherent rank = ¬ (IsAccused incoherent rank)
