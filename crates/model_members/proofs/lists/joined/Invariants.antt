use Rattle.std.proofs.Common.{take}
use Rattle.model_members.proofs.ListSteps.{Joins}
use Rattle.model_members.proofs.lists.joined.Given as goal

-- what the pairs so far and then a step lead to
abbrev pub invariant-loop-from : goal.invariant-loop-from
invariant-loop-from l = Joins l.steps l.found.items (take l.from-index l.pairs)
