use Rattle.std.proofs.Common.{All, take}
use Rattle.model_members.specs.Inside.Pairs.{HasPairs}
use Rattle.model_members.proofs.properties.each_has_pairs.Given as goal

-- each operand so far has just these pairs
abbrev pub invariant-loop-operand : goal.invariant-loop-operand
invariant-loop-operand l = All (HasPairs l.fn.lists.ordered l.fn.wanted) (take l.operand-index l.fn.operands)
