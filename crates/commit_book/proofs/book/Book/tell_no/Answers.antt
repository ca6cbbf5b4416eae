use Rattle.std.proofs.Common.{◌∙◌}
use Rattle.commit_book.proofs.CallLaws.{called, no_puts, no_keeps, no_stays}
use Rattle.commit_book.proofs.book.Book.tell_no.Goals as goal

pub put-requires-clause-put : goal.put-requires-clause-put
put-requires-clause-put c =
    let call = called _ _ _ _ c.self.view_is c.laws.ensures.laws c.laws.ensures.ahead c.self.invariant.0 in
    no_puts call c.args.rank c.args.seen c.args.why c.enter-reply.new.core c.requires.fits c.requires.good c.in-Marked.ensures.reply c.enter-reply.ensures.marks

pub invariant_of-self : goal.invariant_of-self
invariant_of-self c =
    let call = called _ _ _ _ c.self.view_is c.laws.ensures.laws c.laws.ensures.ahead c.self.invariant.0 in (
      no_keeps call c.args.worker c.args.rank c.args.seen c.args.why c.enter-reply.new.core c.enter-reply.new.journal.entries c.put.new.held.items c.put.new.table
          c.requires.fits c.requires.good c.enter-reply.ensures.marks c.enter-reply.ensures.entries c.put.ensures.count c.put.ensures.settled,
      tt,
    )

pub invariant_of-self-in-Over-1 : goal.invariant_of-self-in-Over-1
invariant_of-self-in-Over-1 c =
    let call = called _ _ _ _ c.self.view_is c.laws.ensures.laws c.laws.ensures.ahead c.self.invariant.0 in (
      no_stays call c.args.worker c.args.rank c.args.seen c.args.why c.enter-reply.new.core c.enter-reply.new.journal.entries c.requires.fits c.requires.good
          (λ marked. c.in_default.not-Marked (c.enter-reply.ensures.reply ∙ marked)) c.enter-reply.ensures.marks c.enter-reply.ensures.entries,
      tt,
    )
