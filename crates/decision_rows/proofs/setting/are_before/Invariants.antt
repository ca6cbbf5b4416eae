use Rattle.std.proofs.Common.{ℕ, ◌<◌}
use Rattle.std.specs.Prelude.{slice_index_or}
use Rattle.decision_rows.proofs.setting.are_before.Given as goal

abbrev pub invariant-loop-old : goal.invariant-loop-old
invariant-loop-old l = (k d : ℕ) → k < l.old-index → slice_index_or l.ranks k d < l.rank
