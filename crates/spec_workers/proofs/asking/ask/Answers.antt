use Rattle.std.proofs.Common.{List, [], ◌∷◌, sym, ◌∙◌, subst}
use Rattle.std.proofs.lemmas.Result.{IfOk-weaker}
use Rattle.accuse_core.specs.declared.event.Event.TheVariants as E
use Rattle.commit_lock.specs.Seats.{number, seen, entered}
use Rattle.commit_book.specs.Answers.{take_reply}
use Rattle.spec_workers.specs.Books.{lock_case, Tells}
use Rattle.spec_workers.specs.Turns.{entry}
use Rattle.case_file.specs.Cases.{CaseView}
use Rattle.accuse_core.specs.declared.journal.Entry.{Entry}
use Rattle.spec_workers.specs.Inside.Asked.{KeepsFirstOf}
use Rattle.spec_workers.specs.Inside.Grown.{IsGrown}
use Rattle.spec_workers.proofs.Holds.{grown_at, held}
use Rattle.spec_workers.proofs.asking.ask.Goals as goal

pub leave-requires-clause-grown : goal.leave-requires-clause-grown
leave-requires-clause-grown g c =
    grown_at (number c.enter-book.new.seat) c.number-worker.result c.enter-book.result.entries (entered c.enter-book.new.seat)
    c.take-answer.new.book.entries (c.number-worker.ensures ∙ sym c.enter-book.ensures.same.0.0) c.enter-book.ensures.entered
    c.take-answer.ensures.grown

pub returns-clause-told : goal.returns-clause-told
returns-clause-told g c =
    let seat = c.args.seat.now in
    let book = c.take-answer.new.book in
    let rank = c.args.rank in
    IfOk-weaker c.take-answer.result
    (λ answer. IsGrown c.number-worker.result c.enter-book.result book (entry (E.Take c.number-worker.result rank) (take_reply answer) ∷ []))
    (λ answer. Tells (number seat) (seen seat) (seen c.leave.new.seat) (entry (E.Take (number seat) rank) (take_reply answer) ∷ []))
    (λ answer grown. held (number seat) (seen seat) (seen c.leave.new.seat) c.enter-book.result book (entry (E.Take (number seat) rank) (take_reply answer) ∷ [])
    c.enter-book.ensures.seen c.enter-book.ensures.own
    (subst (λ w. IsGrown w c.enter-book.result book (entry (E.Take w rank) (take_reply answer) ∷ [])) c.number-worker.ensures grown)
    c.leave.ensures.seen)
    c.take-answer.ensures.told

pub returns-clause-first : goal.returns-clause-first
returns-clause-first g c =
    let book = c.take-answer.new.book in
    IfOk-weaker c.take-answer.result (λ _. KeepsFirstOf book.case book.entries)
    (λ _. KeepsFirstOf (lock_case c.args.lock.now) (seen c.leave.new.seat))
    (λ _ keeps. subst (λ (l : List Entry). KeepsFirstOf (lock_case c.args.lock.now) l) (sym c.leave.ensures.seen)
    (subst (λ (of : CaseView). KeepsFirstOf of book.entries) (c.take-answer.ensures.case ∙ c.enter-book.ensures.case) keeps))
    c.take-answer.ensures.first
