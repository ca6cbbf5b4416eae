use Rattle.std.proofs.Common.{◌≡◌}
use Rattle.std.specs.List.{range_with_len}
use Rattle.run_evidence.proofs.Taken.{removed_of}
use Rattle.run_evidence.proofs.rows.removed_rows.Given as goal

abbrev pub invariant-loop-index : goal.invariant-loop-index
invariant-loop-index l = l.removed.items ≡ removed_of l.book.case.order l.book.whys (range_with_len 0 l.index)
