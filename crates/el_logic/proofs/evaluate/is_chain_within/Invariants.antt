use Rattle.std.proofs.Common.{ℕ, ◌<◌}
use Rattle.el_logic.specs.Meaning.{AreChained, AreRelated}
use Rattle.el_logic.proofs.evaluate.is_chain_within.Given as goal

-- the property has each pair of the composition that begins at an element so far
abbrev pub invariant-loop-x : goal.invariant-loop-x
invariant-loop-x l =
    (x : ℕ) → x < l.x → (y : ℕ) → AreChained l.fn.i l.fn.chain x y → AreRelated l.fn.i l.fn.upper x y
