use Rattle.std.proofs.Common.{All, take}
use Rattle.el_logic.specs.Meaning.{AreRelated}
use Rattle.el_logic.proofs.evaluate.is_property_within.Given as goal

-- each pair so far is one of the second property
abbrev pub invariant-loop-from : goal.invariant-loop-from
invariant-loop-from l = All (λ p. AreRelated l.fn.i l.fn.upper p.0 p.1) (take l.from-index l.from-items)
