-- Answers that may be none.
use Rattle.std.specs.Prelude.{◌≡◌, Option, Some, ◌↔◌}

-- the answer is this value
abbrev pub Is : {X : Type 0} → Option X → X → Type 0
Is answer x = answer ≡ Some x

-- the answer is the one value of which this holds, and none if it holds of no value
abbrev pub IsTheOne : {X : Type 0} → Option X → (X → Type 0) → Type 0
IsTheOne {X} answer P = (x : X) → P x ↔ (answer ≡ Some x)
