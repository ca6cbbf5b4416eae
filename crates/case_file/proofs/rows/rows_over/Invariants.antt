use Rattle.std.proofs.Common.{◌≡◌, All, take}
use Rattle.case_file.specs.Cases.{rows_over}
use Rattle.case_file.specs.Inside.ShortRows.{IsShortRow}
use Rattle.case_file.proofs.rows.rows_over.Given as goal

abbrev pub invariant-loop-index : goal.invariant-loop-index
invariant-loop-index l = All (All IsShortRow) l.rows → l.over.items ≡ rows_over l.rows (take l.index-index l.order)
