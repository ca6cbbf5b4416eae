use Rattle.std.proofs.Common.{ℕ, ◌<◌}
use Rattle.el_logic.specs.Meaning.{IsMember}
use Rattle.el_logic.proofs.evaluate.is_apart.Given as goal

-- no element so far belongs to both
abbrev pub invariant-loop-x : goal.invariant-loop-x
invariant-loop-x l =
    (x : ℕ) → x < l.x → IsMember l.fn.i x l.fn.one → ¬ (IsMember l.fn.i x l.fn.other)
