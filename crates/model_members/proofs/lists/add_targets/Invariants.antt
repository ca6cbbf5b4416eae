use Rattle.std.proofs.Common.{take}
use Rattle.model_members.proofs.ListSteps.{Seconds}
use Rattle.model_members.proofs.lists.add_targets.Given as goal

-- what was found, and where the steps so far end
abbrev pub invariant-loop-to : goal.invariant-loop-to
invariant-loop-to l = Seconds l.initial.found.items l.found.items (take l.to-index l.steps)
