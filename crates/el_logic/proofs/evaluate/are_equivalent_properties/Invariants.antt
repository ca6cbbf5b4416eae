use Rattle.std.proofs.Common.{ℕ, All, take}
use Rattle.el_logic.specs.Meaning.{AreRelated}
use Rattle.el_logic.proofs.evaluate.are_equivalent_properties.Given as goal

-- each operand so far is within all of them
abbrev pub invariant-loop-operand : goal.invariant-loop-operand
invariant-loop-operand l =
    All (λ r. All (λ s. (x y : ℕ) → AreRelated l.fn.i r x y → AreRelated l.fn.i s x y) l.fn.operands)
    (take l.operand-index l.fn.operands)
