use Rattle.std.proofs.Common.{ℕ, All, Contains, take}
use Rattle.el_logic.specs.Meaning.{IsMember}
use Rattle.el_logic.proofs.evaluate.+member.Given as goal

abbrev pub decreases-member : goal.decreases-member
decreases-member l = goal.size-member l

-- the element belongs to each operand so far
abbrev pub invariant-loop-operand : goal.invariant-loop-operand
invariant-loop-operand l =
    All (IsMember l.fn.i l.fn.x) (take l.operand-index l.operand-items)

-- no pair so far leads to a member
abbrev pub invariant-loop-from : goal.invariant-loop-from
invariant-loop-from l =
    ¬ ((y : ℕ) × Contains (take l.from-index l.from-items) (l.fn.x, y) × IsMember l.fn.i y l.filler)
