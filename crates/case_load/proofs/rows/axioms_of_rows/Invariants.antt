use Rattle.std.proofs.Common.{◌≡◌, map, take}
use Rattle.predicate_axioms.specs.RowAxioms.{row_axioms}
use Rattle.case_load.proofs.rows.axioms_of_rows.Given as goal

abbrev pub invariant-loop-row : goal.invariant-loop-row
invariant-loop-row l = l.lists.items ≡ map (row_axioms l.names.classes.names l.names.roles.names) (take l.row-index l.rows)
