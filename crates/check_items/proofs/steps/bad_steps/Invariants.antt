use Rattle.std.proofs.Common.{All, take}
use Rattle.valid_evidence.specs.Items.{IsShownEmpty}
use Rattle.check_items.proofs.steps.bad_steps.Given as goal

abbrev pub invariant-loop-place : goal.invariant-loop-place
invariant-loop-place l = All (IsShownEmpty l.case l.removed) (take l.place l.removed)
