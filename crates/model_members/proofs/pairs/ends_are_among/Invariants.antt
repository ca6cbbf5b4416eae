use Rattle.std.proofs.Common.{All, take}
use Rattle.model_members.specs.Inside.Pairs.{Lead}
use Rattle.model_members.proofs.pairs.ends_are_among.Given as goal

-- what holds of each pair so far
abbrev pub invariant-loop-to : goal.invariant-loop-to
invariant-loop-to l = All (λ p. Lead l.wanted l.from p.1) (take l.to-index l.steps)
