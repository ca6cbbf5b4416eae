use Rattle.std.proofs.Common.{◌∙◌}
use Rattle.commit_book.proofs.CallLaws.{called, yes_puts, yes_notes, yes_keeps, notes_keep, yes_stays}
use Rattle.commit_book.proofs.book.Book.tell_yes.Goals as goal

pub put-requires-clause-put : goal.put-requires-clause-put
put-requires-clause-put c =
    let call = called _ _ _ _ c.self.view_is c.laws.ensures.laws c.laws.ensures.ahead c.self.invariant.0 in
    yes_puts call c.args.rank c.args.seen c.args.table c.enter-reply.new.core c.requires.fits c.requires.table c.case.ensures.closed c.in-Kept.ensures.reply c.enter-reply.ensures.marks

pub invariant_of-self : goal.invariant_of-self
invariant_of-self c =
    let call = called _ _ _ _ c.self.view_is c.laws.ensures.laws c.laws.ensures.ahead c.self.invariant.0 in (
      yes_keeps call c.args.worker c.args.rank c.args.seen c.args.table c.enter-reply.new.core c.enter-reply.new.journal.entries c.put.new.held.items c.put.new.table
          c.requires.fits c.requires.table c.case.ensures.closed c.enter-reply.ensures.marks c.enter-reply.ensures.entries c.put.ensures.count c.put.ensures.settled,
      tt,
    )

pub put-requires-in-Noted-clause-put : goal.put-requires-in-Noted-clause-put
put-requires-in-Noted-clause-put c =
    let call = called _ _ _ _ c.self.view_is c.laws.ensures.laws c.laws.ensures.ahead c.self.invariant.0 in
    yes_notes call c.args.rank c.args.seen c.args.table c.enter-reply.new.core c.requires.fits c.requires.table c.case.ensures.closed c.in-Noted.ensures.reply c.enter-reply.ensures.marks

pub invariant_of-self-in-Noted : goal.invariant_of-self-in-Noted
invariant_of-self-in-Noted c =
    let call = called _ _ _ _ c.self.view_is c.laws.ensures.laws c.laws.ensures.ahead c.self.invariant.0 in (
      notes_keep call c.args.worker c.args.rank c.args.seen c.args.table c.enter-reply.new.core c.enter-reply.new.journal.entries c.put-in-Noted.new.held.items c.put-in-Noted.new.table
          c.requires.fits c.requires.table c.case.ensures.closed c.enter-reply.ensures.marks c.enter-reply.ensures.entries c.put-in-Noted.ensures.count c.put-in-Noted.ensures.settled,
      tt,
    )

pub invariant_of-self-in-Over-1 : goal.invariant_of-self-in-Over-1
invariant_of-self-in-Over-1 c =
    let call = called _ _ _ _ c.self.view_is c.laws.ensures.laws c.laws.ensures.ahead c.self.invariant.0 in (
      yes_stays call c.args.worker c.args.rank c.args.seen c.args.table c.enter-reply.new.core c.enter-reply.new.journal.entries c.requires.fits c.requires.table c.case.ensures.closed
          (λ kept. c.in_default.not-Kept (c.enter-reply.ensures.reply ∙ kept)) (λ noted. c.in_default.not-Noted (c.enter-reply.ensures.reply ∙ noted))
          c.enter-reply.ensures.marks c.enter-reply.ensures.entries,
      tt,
    )
