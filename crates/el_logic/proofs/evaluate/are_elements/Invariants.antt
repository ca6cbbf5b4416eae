use Rattle.std.proofs.Common.{◌<◌, All, take}
use Rattle.el_logic.proofs.evaluate.are_elements.Given as goal

-- those so far are within the domain
abbrev pub invariant-loop-x : goal.invariant-loop-x
invariant-loop-x l = All (λ x. x < l.fn.size) (take l.x-index l.fn.numbers)
