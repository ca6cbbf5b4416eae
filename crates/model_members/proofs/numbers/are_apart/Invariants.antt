use Rattle.std.proofs.Common.{All, Contains, take}
use Rattle.model_members.proofs.numbers.are_apart.Given as goal

-- the others have no number so far
abbrev pub invariant-loop-x : goal.invariant-loop-x
invariant-loop-x l = All (λ x. ¬ (Contains l.others x)) (take l.x-index l.numbers)
