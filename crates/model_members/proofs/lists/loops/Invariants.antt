use Rattle.std.proofs.Common.{◌≡◌, take}
use Rattle.model_members.proofs.ListSteps.{Begins}
use Rattle.model_members.proofs.lists.loops.Given as goal

-- where the pairs so far begin that lead back
abbrev pub invariant-loop-from : goal.invariant-loop-from
invariant-loop-from l = Begins (λ x y. x ≡ y) l.found.items (take l.from-index l.pairs)
