use Rattle.std.proofs.Common.{◌≡◌, take}
use Rattle.valid_evidence.specs.Rows.{rows_left}
use Rattle.check_items.proofs.rows.rows_left.Given as goal

abbrev pub invariant-loop-one : goal.invariant-loop-one
invariant-loop-one l = l.keep.items ≡ rows_left (take l.one-index l.removed) l.rows
