use Rattle.std.proofs.Common.{◌≡◌, ℕ, ◌<◌, Some, slice_get}
use Rattle.derivation.proofs.saying.has_elsewhere.Given as goal

abbrev pub invariant-loop-other_place : goal.invariant-loop-other_place
invariant-loop-other_place l =
    (j : ℕ) → j < l.other_place → (l.place ≡ j → ⊥) → slice_get l.nodes j ≡ Some l.node → ⊥
