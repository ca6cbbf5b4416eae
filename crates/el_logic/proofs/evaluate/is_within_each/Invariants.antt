use Rattle.std.proofs.Common.{All, take}
use Rattle.el_logic.specs.Meaning.{IsWithin}
use Rattle.el_logic.proofs.evaluate.is_within_each.Given as goal

-- the lower one is within each of the others so far
abbrev pub invariant-loop-upper : goal.invariant-loop-upper
invariant-loop-upper l = All (IsWithin l.fn.i l.fn.lower) (take l.upper-index l.fn.uppers)
