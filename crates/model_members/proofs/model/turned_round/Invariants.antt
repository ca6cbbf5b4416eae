use Rattle.std.proofs.Common.{take}
use Rattle.model_members.specs.Lists.{AreTurned}
use Rattle.model_members.proofs.model.turned_round.Given as goal

-- the pairs so far
abbrev pub invariant-loop-from : goal.invariant-loop-from
invariant-loop-from l = AreTurned l.turned.items (take l.from-index l.pairs)
