use Rattle.std.proofs.Common.{◌<◌, length, arith}
use Rattle.finish_book.proofs.TellLemmas.{removes_rank}
use Rattle.finish_book.proofs.finishing.remove_rank.Goals as goal

pub returns : goal.returns
returns c =
    let inside : c.args.rank < length c.args.book.now.marks = omega (arith, c.journal.ensures.book.ranks, c.requires.inside) in
    removes_rank c.args.book.now c.reserve_turn.new.self c.tell_no.new.self c.args.rank c.args.seen c.in_ok-reserve_turn.ensures.ok c.tell_no.ensures.told
    inside c.requires.undecided c.decided_ranks_keep_their_marks.ensures c.events_leave_the_ranks.ensures.step
