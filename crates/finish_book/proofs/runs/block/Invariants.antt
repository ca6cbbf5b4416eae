use Rattle.std.proofs.Common.{◌≡◌, ◌-◌, ◌≤◌}
use Rattle.accuse_core.specs.Marks.{block_of}
use Rattle.finish_book.proofs.runs.block.Given as goal

abbrev pub invariant-loop-rank : goal.invariant-loop-rank
invariant-loop-rank l = (l.first ≤ l.rank) × (l.ranks.items ≡ block_of l.core l.first (l.rank - l.first))
