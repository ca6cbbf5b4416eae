use Rattle.std.proofs.Common.{[], ◌∷◌, subst}
use Rattle.std.proofs.lemmas.Result.{on_ok_weaker}
use Rattle.commit_lock.specs.Seats.{number, seen}
use Rattle.spec_workers.specs.Turns.{IsVerdictOn}
use Rattle.spec_workers.specs.Inside.Grown.{IsGrown}
use Rattle.spec_workers.proofs.Holds.{held}
use Rattle.spec_workers.proofs.telling.tell.Goals as goal

pub returns-clause-told : goal.returns-clause-told
returns-clause-told g c =
    let seat = c.args.seat.now in
    let taken = c.args.taken.now in
    let book = c.tell_book-answer.new.book in
    let same = c.number-worker.ensures in
    on_ok_weaker c.tell_book-answer.result
    (λ told.
    let verdict = subst (λ w. IsVerdictOn w taken.rank taken.seen told.0) same told.1 in
    let grown = subst (λ w. IsGrown w c.enter-book.result book (told.0 ∷ [])) same told.2 in (
      told.0,
      verdict,
      held (number seat) (seen seat) (seen c.leave.new.seat) c.enter-book.result book (told.0 ∷ [])
          c.enter-book.ensures.seen c.enter-book.ensures.own grown c.leave.ensures.seen,
    ))
    c.tell_book-answer.ensures.told
