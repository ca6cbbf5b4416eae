use Rattle.std.proofs.Common.{◌+◌, ap}
use Rattle.check_items.proofs.ReplayLaws.{next_marks, next_replies}
use Rattle.check_items.proofs.journal.replayed.Goals as goal

pub loop-entry-preserved : goal.loop-entry-preserved
loop-entry-preserved c =
    let before = c.loop-entry.invariant in
    record {
      number = ap (λ n. n + 1) before.number;
      replies = next_replies c.args.ranks c.args.entries.now c.loop-entry.entry-index _ c.loop-entry.core c.loop-entry-test.true before.core before.replies
          (c.is_replied.ensures.answer.0 c.if-not-is_replied.false);
      core = next_marks c.args.ranks c.args.entries.now c.loop-entry.entry-index _ c.loop-entry.core c.loop-entry-test.true before.core c.is_replied.new.core
          (c.is_replied.ensures.marks c.if-not-is_replied.false);
    }
