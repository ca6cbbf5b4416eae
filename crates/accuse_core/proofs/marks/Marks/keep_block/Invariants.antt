use Rattle.std.proofs.Common.{◌≡◌, ◌+◌}
use Rattle.std.specs.Vec.{vec_capacity}
use Rattle.accuse_core.specs.Marks.{with_block}
use Rattle.accuse_core.specs.Inside.Tracking.{AreTracked}
use Rattle.accuse_core.proofs.marks.Marks.keep_block.Given as goal

abbrev pub invariant-loop-ahead : goal.invariant-loop-ahead
invariant-loop-ahead l = record {
  marks : l.self-inside.by_rank.items ≡ with_block l.fn.self l.front l.ahead;
  tracked : AreTracked l.self-inside.by_rank.items (l.front + l.ahead) l.self-inside.kept.items (vec_capacity l.self-inside.kept);
}
