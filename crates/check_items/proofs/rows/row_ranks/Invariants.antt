use Rattle.std.proofs.Common.{◌≡◌, ◌<◌, ℕ, length, slice_index}
use Rattle.check_items.proofs.rows.row_ranks.Given as goal

abbrev pub invariant-loop-rank : goal.invariant-loop-rank
invariant-loop-rank l = record {
  many : length l.ranks.items ≡ length l.case.order;
  set_at : (rank : ℕ) → rank < l.rank → slice_index l.ranks.items (slice_index l.case.order rank) ≡ rank;
}
