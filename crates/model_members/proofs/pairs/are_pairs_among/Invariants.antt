use Rattle.std.proofs.Common.{All, take}
use Rattle.model_members.specs.Inside.Pairs.{Lead}
use Rattle.model_members.proofs.pairs.are_pairs_among.Given as goal

-- what holds of each pair so far
abbrev pub invariant-loop-from : goal.invariant-loop-from
invariant-loop-from l = All (λ p. Lead l.others p.0 p.1) (take l.from-index l.pairs)
