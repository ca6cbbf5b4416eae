-- What shows of some kept ranks that they are the repair, without going down the ranks again.
use Rattle.std.specs.Prelude.{ℕ, ◌<◌, List, [], ◌∷◌, ◌++◌, Contains}
use Rattle.std.specs.List.Sorted.{IsStrictlyIncreasing}

-- some ranks before this one, each of the given kind, are incoherent together with it
pub record IsRefuted (incoherent : List ℕ → Type 0) (kind : ℕ → Type 0) (rank : ℕ) : Type 0 where
  pub others : List ℕ
  pub each : (other : ℕ) → Contains others other → (other < rank) × kind other
  pub together : incoherent (others ++ rank ∷ [])

-- ascending ranks below the count, coherent together; kept ranks before it refute each other rank
pub record IsCertified (incoherent : List ℕ → Type 0) (count : ℕ) (kept : List ℕ) : Type 0 where
  pub ascending : IsStrictlyIncreasing kept
  pub below : (rank : ℕ) → Contains kept rank → rank < count
  pub coherent : ¬ (incoherent kept)
  pub refuted : (rank : ℕ) → rank < count → ¬ (Contains kept rank)
      → IsRefuted incoherent (Contains kept) rank
