use Rattle.std.proofs.Common.{◌≡◌, ℕ, List, take}
use Rattle.valid_evidence.specs.Rows.{steps_by_rank}
use Rattle.check_items.specs.Inside.Tables.{HasItsRows, row_ranks}
use Rattle.check_items.proofs.steps.steps_by_rank.Given as goal

abbrev pub invariant-loop-step : goal.invariant-loop-step
invariant-loop-step l = (order : List ℕ) → HasItsRows order → l.ranks ≡ row_ranks order → l.by_rank.items ≡ steps_by_rank order (take l.step-index l.steps)
