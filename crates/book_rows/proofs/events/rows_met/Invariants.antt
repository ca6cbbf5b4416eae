use Rattle.std.proofs.Common.{◌≡◌}
use Rattle.book_rows.proofs.events.rows_met.Given as goal

abbrev pub invariant-loop-met : goal.invariant-loop-met
invariant-loop-met l = l.base.case ≡ l.book.case
