-- Lists by keys.
use Rattle.std.specs.Prelude.{◌≡◌, ℕ, List, [], length, slice_index_or}

-- for each given list one that was made of it
pub record AreMadeOf {X : Type 0} (IsMadeOf : List X → List X → Type 0) (given made : List (List X)) : Type 0 where
  pub each : length made ≡ length given
  pub keyed : (key : ℕ) → IsMadeOf (slice_index_or made key []) (slice_index_or given key [])
