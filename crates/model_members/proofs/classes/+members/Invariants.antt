use Rattle.std.proofs.Common.{◌<◌, All, take}
use Rattle.el_logic.specs.Meaning.{IsMember}
use Rattle.model_members.specs.Inside.Sets.{IsSetOf}
use Rattle.model_members.proofs.classes.+members.Given as goal

abbrev pub decreases-members : goal.decreases-members
decreases-members l = goal.size-members l

-- the set of the elements that belong to each operand so far
abbrev pub invariant-loop-operand : goal.invariant-loop-operand
invariant-loop-operand l =
    IsSetOf l.fn.lists.ordered.size (λ x. (x < l.fn.lists.ordered.size) × All (IsMember l.fn.lists.ordered x) (take l.operand-index l.operand-items)) l.all
