use Rattle.std.proofs.Common.{arith, ◌≤◌, ◌<◌, ◌+◌, length}
use Rattle.accuse_core.proofs.BlockLaws.{block_step}
use Rattle.accuse_core.proofs.TrackLaws.{tracked_further, front_past_new_block}
use Rattle.accuse_core.proofs.marks.Marks.keep_block.Goals as goal

pub invariant_of-self : goal.invariant_of-self
invariant_of-self c =
    let within : c.args.front + c.loop-ahead.ahead ≤ length c.args.self.now = omega arith in
    tracked_further _ _ _ _ _
    (front_past_new_block c.args.self.now _ c.args.front c.loop-ahead.ahead c.requires.front within c.loop-ahead.invariant.marks)
    c.loop-ahead.invariant.tracked

pub loop-ahead-preserved : goal.loop-ahead-preserved
loop-ahead-preserved c =
    let within : c.args.front + c.loop-ahead.ahead < length c.args.self.now = omega arith in
    record {
      marks = block_step c.args.self.now _ _ c.args.front c.loop-ahead.ahead within c.loop-ahead.invariant.marks c.keep_unless_removed.ensures.marked;
      tracked = tracked_further _ _ _ _ _ (omega arith) c.keep_unless_removed.ensures.tracked;
    }
