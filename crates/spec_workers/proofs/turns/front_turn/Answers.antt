use Rattle.std.proofs.Common.{[], ◌∷◌, subst, arith}
use Rattle.accuse_core.specs.declared.event.Event.TheVariants.{TakeFront}
use Rattle.commit_lock.specs.Seats.{number, seen}
use Rattle.commit_book.specs.declared.answers.FrontAnswer.{FrontAnswer}
use Rattle.commit_book.specs.Answers.{front_reply}
use Rattle.commit_book.specs.Books.{ranks_of}
use Rattle.spec_workers.specs.Books.{lock_case, Tells}
use Rattle.spec_workers.specs.Turns.{entry}
use Rattle.spec_workers.specs.Inside.Asked.{GivesFrontTake}
use Rattle.spec_workers.proofs.FrontLemmas.{front_after_more}
use Rattle.spec_workers.proofs.TurnSteps.{front_tested}
use Rattle.spec_workers.proofs.turns.front_turn.Goals as goal

pub returns-in_ok-test_and_tell-in-Front-clause-ok : goal.returns-in_ok-test_and_tell-in-Front-clause-ok
returns-in_ok-test_and_tell-in-Front-clause-ok g c =
    let seat = c.args.seat.now in
    let asked = c.ask_front.new.seat in
    let taken = c.in-Front.taken in
    let told = subst (λ (a : FrontAnswer). Tells (number seat) (seen seat) (seen asked) (entry (TakeFront (number seat)) (front_reply a) ∷ []))
    c.in-Front.is c.in_ok-ask_front.ensures.told in
    front_tested (number seat) (number asked) taken.rank taken.seen (seen seat) (seen asked) (seen c.test_and_tell.new.seat)
    c.in_ok-ask_front.ensures.same.0 told c.in_ok-test_and_tell-in-Front.ensures.told

pub returns-in_ok-test_and_tell-in-Front-clause-moves : goal.returns-in_ok-test_and_tell-in-Front-clause-moves
returns-in_ok-test_and_tell-in-Front-clause-moves g c =
    let case = lock_case c.args.lock.now in
    let before = seen c.args.seat.now in
    let asked = seen c.ask_front.new.seat in
    let given = subst (λ (a : FrontAnswer). GivesFrontTake case asked a) c.in-Front.is c.in_ok-ask_front.ensures.given in
    let moved = c.in_ok-test_and_tell-in-Front.ensures.moves (given.0, given.1) in
    let is = given.0 in
    let begins = c.in_ok-ask_front.ensures.told.seen in
    let grown = front_after_more (ranks_of case) before asked begins in
    omega (arith, moved, is, grown)
