use Rattle.std.proofs.Common.{take}
use Rattle.model_members.proofs.ListSteps.{Firsts}
use Rattle.model_members.proofs.lists.begins.Given as goal

-- where the pairs so far begin
abbrev pub invariant-loop-from : goal.invariant-loop-from
invariant-loop-from l = Firsts l.found.items (take l.from-index l.pairs)
