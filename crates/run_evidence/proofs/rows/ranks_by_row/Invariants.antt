use Rattle.std.proofs.Common.{◌≡◌, ◌<◌, ℕ, length, slice_index}
use Rattle.run_evidence.proofs.rows.ranks_by_row.Given as goal

abbrev pub invariant-loop-rank : goal.invariant-loop-rank
invariant-loop-rank l = record {
  size : length l.ranks.items ≡ length l.case.order;
  noted : (rank : ℕ) → rank < l.rank → slice_index l.ranks.items (slice_index l.case.order rank) ≡ rank;
}
