use Rattle.std.proofs.Common.{◌<◌, ℕ}
use Rattle.el_logic.specs.Meaning.{IsMember}
use Rattle.el_logic.proofs.evaluate.is_within.Given as goal

-- each element so far that is a member of the lower one is one of the upper
abbrev pub invariant-loop-x : goal.invariant-loop-x
invariant-loop-x l =
    (x : ℕ) → x < l.x → IsMember l.fn.i x l.fn.lower → IsMember l.fn.i x l.fn.upper
