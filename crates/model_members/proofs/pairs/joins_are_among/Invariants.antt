use Rattle.std.proofs.Common.{ℕ, All, take}
use Rattle.model_members.specs.Inside.Pairs.{Lead}
use Rattle.model_members.proofs.pairs.joins_are_among.Given as goal

-- each pair so far leads on within the wanted ones
abbrev pub invariant-loop-from : goal.invariant-loop-from
invariant-loop-from l = All (λ p. (y : ℕ) → Lead l.steps p.1 y → Lead l.wanted p.0 y) (take l.from-index l.pairs)
