use Rattle.std.proofs.Common.{[], ◌∷◌, sym, ◌∙◌, subst}
use Rattle.std.proofs.lemmas.Result.{IfOk-weaker}
use Rattle.accuse_core.specs.declared.event.Event.TheVariants as E
use Rattle.commit_lock.specs.Seats.{number, seen, entered}
use Rattle.commit_book.specs.Answers.{front_reply}
use Rattle.spec_workers.specs.Books.{Tells}
use Rattle.spec_workers.specs.Turns.{entry}
use Rattle.spec_workers.specs.Inside.Grown.{IsGrown}
use Rattle.spec_workers.proofs.Holds.{grown_at, held}
use Rattle.spec_workers.proofs.asking.ask_front.Goals as goal

pub leave-requires-clause-grown : goal.leave-requires-clause-grown
leave-requires-clause-grown g c =
    grown_at (number c.enter-book.new.seat) c.number-worker.result c.enter-book.result.entries (entered c.enter-book.new.seat)
    c.take_front-answer.new.book.entries (c.number-worker.ensures ∙ sym c.enter-book.ensures.same.0.0) c.enter-book.ensures.entered
    c.take_front-answer.ensures.grown

pub returns-clause-told : goal.returns-clause-told
returns-clause-told g c =
    let seat = c.args.seat.now in
    let book = c.take_front-answer.new.book in
    IfOk-weaker c.take_front-answer.result
    (λ answer. IsGrown c.number-worker.result c.enter-book.result book (entry (E.TakeFront c.number-worker.result) (front_reply answer) ∷ []))
    (λ answer. Tells (number seat) (seen seat) (seen c.leave.new.seat) (entry (E.TakeFront (number seat)) (front_reply answer) ∷ []))
    (λ answer grown. held (number seat) (seen seat) (seen c.leave.new.seat) c.enter-book.result book (entry (E.TakeFront (number seat)) (front_reply answer) ∷ [])
    c.enter-book.ensures.seen c.enter-book.ensures.own
    (subst (λ w. IsGrown w c.enter-book.result book (entry (E.TakeFront w) (front_reply answer) ∷ [])) c.number-worker.ensures grown)
    c.leave.ensures.seen)
    c.take_front-answer.ensures.told
