-- The places of the facts from which a goal follows.
use Rattle.std.specs.Prelude.{◌≡◌, ℕ, ◌<◌, ◌≤◌, List, ◌∷◌, Some, slice_get, All, AllPairs, Contains}
use Rattle.fact_table.specs.declared.types.Proved.{Proved}
use Rattle.derivation.specs.Traces.{IsPremiseOf}

-- the places descend from the goal's on, and with each are those of its premises
pub record AreNeeded (items : List Proved) (goal : ℕ) (places : List ℕ) : Type 0 where
  pub first : (rest : List ℕ) × (places ≡ goal ∷ rest)
  pub descending : AllPairs (λ one other. other < one) places
  pub within : All (λ place. place ≤ goal) places
  pub premises : (place : ℕ) (item : Proved) (premise : ℕ) → Contains places place
      → slice_get items place ≡ Some item → IsPremiseOf item.reason premise
      → Contains places premise
