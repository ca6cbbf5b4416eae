use Rattle.std.proofs.Common.{length}
use Rattle.el_logic.specs.Meaning.{AreApart}
use Rattle.el_logic.proofs.evaluate.are_apart.Given as goal

-- the list gets shorter
abbrev pub decreases-loop-one : goal.decreases-loop-one
decreases-loop-one l = length l.rest

-- all are apart exactly if those left are
abbrev pub invariant-loop-one : goal.invariant-loop-one
invariant-loop-one l =
    (AreApart l.fn.i l.rest → AreApart l.fn.i l.fn.operands)
    × (AreApart l.fn.i l.fn.operands → AreApart l.fn.i l.rest)
