use Rattle.std.proofs.Common.{◌≡◌, All, map, take}
use Rattle.case_file.specs.Cases.{row_over}
use Rattle.case_file.specs.Inside.ShortRows.{IsShortRow}
use Rattle.case_file.proofs.rows.axioms_over.Given as goal

abbrev pub invariant-loop-axiom : goal.invariant-loop-axiom
invariant-loop-axiom l = All IsShortRow l.axioms → l.over.items ≡ map row_over (take l.axiom-index l.axioms)
