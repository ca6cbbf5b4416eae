use Rattle.std.proofs.Common.{All, take}
use Rattle.el_logic.specs.Meaning.{IsWithin}
use Rattle.el_logic.proofs.evaluate.are_equivalent.Given as goal

-- each operand so far is within all of them
abbrev pub invariant-loop-operand : goal.invariant-loop-operand
invariant-loop-operand l =
    All (λ c. All (λ d. IsWithin l.fn.i c d) l.fn.operands) (take l.operand-index l.fn.operands)
