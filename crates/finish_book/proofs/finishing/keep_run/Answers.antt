use Rattle.std.proofs.Common.{◌+◌, ◌≤◌, length, rules, arith}
use Rattle.accuse_core.specs.Marks.{front_of}
use Rattle.finish_book.proofs.TellLemmas.{keeps_none, keeps_run}
use Rattle.finish_book.proofs.finishing.keep_run.Goals as goal

pub returns-then-count-eq0 : goal.returns-then-count-eq0
returns-then-count-eq0 c = keeps_none c.args.book.now c.args.count (search rules)

pub returns : goal.returns
returns c =
    let inside : front_of c.args.book.now.marks + c.args.count ≤ length c.args.book.now.marks = omega (arith, c.journal.ensures.book.ranks, c.requires.inside) in
    let kept = c.blocks_keep_what_is_not_removed.ensures in
    keeps_run c.args.book.now c.reserve_turn.new.self c.tell_block.new.self c.args.count c.in_ok-reserve_turn.ensures.ok c.tell_block.ensures.told inside
    c.books_are_sound.ensures.kept_before_front c.decided_ranks_keep_their_marks.ensures c.events_leave_the_ranks.ensures.step kept.within kept.before kept.past
    c.kept_ranks_only_grow.ensures.block c.kept_ranks_only_grow.ensures.waiting
