use Rattle.std.proofs.Common.{All, take}
use Rattle.el_logic.specs.Meaning.{AreDisjoint}
use Rattle.el_logic.proofs.evaluate.is_apart_from_each.Given as goal

-- the first is apart from each of the others so far
abbrev pub invariant-loop-other : goal.invariant-loop-other
invariant-loop-other l = All (AreDisjoint l.fn.i l.fn.one) (take l.other-index l.fn.others)
