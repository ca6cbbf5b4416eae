-- Pairs that lead on.
use Rattle.std.specs.Prelude.{◌↔◌, ℕ, List, Contains}
use Rattle.el_logic.specs.declared.types.Interp.{Interp}
use Rattle.el_logic.specs.Meaning.{AreRelated}

-- the pairs lead from the element to this one
abbrev pub Lead : List (ℕ × ℕ) → ℕ → ℕ → Type 0
Lead pairs x y = Contains pairs (x, y)

-- the property has just these pairs
abbrev pub HasPairs : Interp → List (ℕ × ℕ) → ℕ → Type 0
HasPairs i pairs role = (x y : ℕ) → Lead pairs x y ↔ AreRelated i role x y
