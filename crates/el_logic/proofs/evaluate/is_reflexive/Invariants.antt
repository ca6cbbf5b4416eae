use Rattle.std.proofs.Common.{ℕ, ◌<◌}
use Rattle.el_logic.specs.Meaning.{AreRelated}
use Rattle.el_logic.proofs.evaluate.is_reflexive.Given as goal

-- each element so far is related to itself
abbrev pub invariant-loop-x : goal.invariant-loop-x
invariant-loop-x l = (x : ℕ) → x < l.x → AreRelated l.fn.i l.fn.role x x
