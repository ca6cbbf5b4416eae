use Rattle.std.proofs.Common.{All, Contains, take}
use Rattle.model_members.proofs.numbers.are_among.Given as goal

-- the others have each number so far
abbrev pub invariant-loop-x : goal.invariant-loop-x
invariant-loop-x l = All (Contains l.others) (take l.x-index l.numbers)
