use Rattle.std.proofs.Common.{take}
use Rattle.model_members.proofs.ListSteps.{Reached}
use Rattle.model_members.proofs.lists.targets.Given as goal

-- what is reached from the numbers so far
abbrev pub invariant-loop-from : goal.invariant-loop-from
invariant-loop-from l = Reached l.pairs l.found.items (take l.from-index l.numbers)
