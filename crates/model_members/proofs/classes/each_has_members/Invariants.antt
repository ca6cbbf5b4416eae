use Rattle.std.proofs.Common.{All, take}
use Rattle.model_members.specs.Inside.Sets.{HasMembers}
use Rattle.model_members.proofs.classes.each_has_members.Given as goal

-- each operand so far has just the members of the set
abbrev pub invariant-loop-operand : goal.invariant-loop-operand
invariant-loop-operand l = All (HasMembers l.fn.lists.ordered l.fn.set) (take l.operand-index l.fn.operands)
