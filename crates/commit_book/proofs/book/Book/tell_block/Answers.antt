use Rattle.std.proofs.Common.{◌∙◌}
use Rattle.commit_book.proofs.CallLaws.{called, block_puts, block_keeps}
use Rattle.commit_book.proofs.book.Book.tell_block.Goals as goal

pub settle-requires : goal.settle-requires
settle-requires c =
    let call = called _ _ _ _ c.self.view_is c.laws.ensures.laws c.laws.ensures.ahead c.self.invariant.0 in
    block_puts call c.front-rank.result c.args.count c.args.table c.enter-reply.new.core c.drop_notes.new.held.items c.front-rank.ensures c.requires.inside
    (record { within = c.drop_notes.ensures.within; before = c.drop_notes.ensures.before; past = c.drop_notes.ensures.past })
    c.requires.table c.case.ensures.closed c.enter-reply.ensures.marks

pub invariant_of-self : goal.invariant_of-self
invariant_of-self c =
    let call = called _ _ _ _ c.self.view_is c.laws.ensures.laws c.laws.ensures.ahead c.self.invariant.0 in (
      block_keeps call c.args.worker c.front-rank.result c.args.count c.kept_count-seen.result c.args.table c.enter-reply.new.core c.enter-reply.new.journal.entries
          c.settle.new.held.items c.settle.new.table c.front-rank.ensures c.kept_count-seen.ensures c.requires.some c.requires.inside c.requires.table c.case.ensures.closed
          c.enter-reply.ensures.marks c.enter-reply.ensures.entries (c.settle.ensures.count ∙ c.drop_notes.ensures.count) c.settle.ensures.settled,
      tt,
    )
