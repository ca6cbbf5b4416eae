use Rattle.std.proofs.Common.{take}
use Rattle.check_items.specs.Inside.Tables.{AreRowsOf}
use Rattle.check_items.proofs.rows.first_unknown.Given as goal

abbrev pub invariant-loop-one : goal.invariant-loop-one
invariant-loop-one l = AreRowsOf l.rows (take l.one-index l.removed)
