use Rattle.std.proofs.Common.{◌≡◌, take}
use Rattle.check_items.specs.Inside.Tables.{ranks_by}
use Rattle.check_items.proofs.rows.ranks_left.Given as goal

abbrev pub invariant-loop-rank : goal.invariant-loop-rank
invariant-loop-rank l = l.kept.items ≡ ranks_by l.keep (take l.rank l.case.order)
