use Rattle.std.proofs.Common.{◌≡◌, map, take}
use Rattle.case_load.proofs.rows.confidences_of.Given as goal

abbrev pub invariant-loop-row : goal.invariant-loop-row
invariant-loop-row l = l.confidences.items ≡ map (λ row. row.confidence) (take l.row-index l.rows)
