use Rattle.std.proofs.Common.{◌≡◌, map, take}
use Rattle.run_evidence.specs.Inside.RowNumbers.{step_by_row}
use Rattle.run_evidence.proofs.rows.steps_by_row.Given as goal

abbrev pub invariant-loop-step : goal.invariant-loop-step
invariant-loop-step l = l.told.items ≡ map (step_by_row l.case.order) (take l.step-index l.steps)
