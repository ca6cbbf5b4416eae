use Rattle.std.proofs.Common.{◌≡◌, ◌<◌, ℕ, slice_index}
use Rattle.accuse_core.specs.Marks.{mark_at}
use Rattle.check_items.specs.Inside.Tables.{mark_by}
use Rattle.check_items.proofs.journal.is_decided.Given as goal

abbrev pub invariant-loop-rank : goal.invariant-loop-rank
invariant-loop-rank l = (rank : ℕ) → rank < l.rank → mark_at l.core rank ≡ mark_by l.keep (slice_index l.case.order rank)
