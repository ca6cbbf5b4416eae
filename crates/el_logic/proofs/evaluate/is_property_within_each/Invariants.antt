use Rattle.std.proofs.Common.{ℕ, All, take}
use Rattle.el_logic.specs.Meaning.{AreRelated}
use Rattle.el_logic.proofs.evaluate.is_property_within_each.Given as goal

-- the lower one is within each of the others so far
abbrev pub invariant-loop-upper : goal.invariant-loop-upper
invariant-loop-upper l =
    All (λ upper. (x y : ℕ) → AreRelated l.fn.i l.fn.lower x y → AreRelated l.fn.i upper x y)
    (take l.upper-index l.fn.uppers)
