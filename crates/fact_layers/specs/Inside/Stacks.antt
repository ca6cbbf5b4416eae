-- Layers of facts, one after another.
use Rattle.std.specs.Prelude.{◌≡◌, ◌<◌, ◌≤◌, ◌-◌, ◌^◌, ℕ, List, Option, Some, None, length, take, slice_get}
use Rattle.std.specs.List.{flat_map}
use Rattle.fact_table.specs.declared.types.Proved.{Proved}
use Rattle.fact_table.specs.Lists.{facts_of, AreDistinctFacts}

-- the items of a layer, and the place of the first of them in the whole list
pub record Placed : Type 0 where
  pub items : List Proved
  pub start : ℕ

abbrev pub all_items : List Placed → List Proved
all_items layers = flat_map (λ (layer : Placed). layer.items) layers

-- each layer begins after all the items before it
abbrev pub AreLayersInOrder : List Placed → Type 0
AreLayersInOrder layers =
    (k : ℕ) (layer : Placed) → slice_get layers k ≡ Some layer
    → layer.start ≡ length (all_items (take k layers))

-- what holds of every base
pub record IsBase (layers : List Placed) (total : ℕ) : Type 0 where
  pub in_place : AreLayersInOrder layers
  pub total_is : total ≡ length (all_items layers)
  pub small : total < 2 ^ 62
  pub distinct : AreDistinctFacts (facts_of (all_items layers))
  pub shallow : length layers ≤ 16

-- an answer by the places of a whole list, where what answers begins at one of them
abbrev pub IsShifted : ℕ → (Option ℕ → Type 0) → Option ℕ → Type 0
IsShifted start Answers None = Answers None
IsShifted start Answers (Some p) = (start ≤ p) × Answers (Some (p - start))
