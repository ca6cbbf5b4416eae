use Rattle.std.proofs.Common.{ℕ, ◌<◌}
use Rattle.std.specs.Prelude.{slice_index_or, All}
use Rattle.decision_rows.proofs.blocks.follow.Given as goal

abbrev pub invariant-loop-old : goal.invariant-loop-old
invariant-loop-old l = (k d : ℕ) → k < l.old-index
    → All (λ rank. slice_index_or l.earlier k d < rank) l.ranks
