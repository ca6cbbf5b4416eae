use Rattle.std.proofs.Common.{◌≡◌, ◌⊎◌, ℕ, take}
use Rattle.std.specs.Prelude.{◌↔◌}
use Rattle.model_members.specs.Inside.Pairs.{Lead}
use Rattle.model_members.proofs.pairs.add_ends.Given as goal

-- what was found, and the ends so far
abbrev pub invariant-loop-to : goal.invariant-loop-to
invariant-loop-to l =
    (x y : ℕ) → Lead l.found.items x y ↔ (Lead l.initial.found.items x y ⊎ ((x ≡ l.from) × (z : ℕ) × Lead (take l.to-index l.steps) z y))
