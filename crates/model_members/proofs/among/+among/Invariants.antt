use Rattle.std.proofs.Common.{All, Contains, take}
use Rattle.el_logic.specs.Meaning.{IsMember}
use Rattle.model_members.specs.Inside.Sets.{AreElements, AreListed}
use Rattle.model_members.proofs.among.+among.Given as goal

abbrev pub decreases-among : goal.decreases-among
decreases-among l = goal.size-among l

-- those that are members of each operand so far, if they are elements
abbrev pub invariant-loop-operand : goal.invariant-loop-operand
invariant-loop-operand l =
    AreElements l.fn.lists.ordered.size l.fn.numbers
    → AreListed (λ x. Contains l.fn.numbers x × All (IsMember l.fn.lists.ordered x) (take l.operand-index l.operand-items)) l.all
