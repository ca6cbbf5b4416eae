use Rattle.std.proofs.Common.{[], ◌∷◌, subst}
use Rattle.accuse_core.specs.declared.event.Event.TheVariants.{Take}
use Rattle.commit_lock.specs.Seats.{number, seen}
use Rattle.commit_book.specs.declared.answers.TakeAnswer.{TakeAnswer}
use Rattle.commit_book.specs.Answers.{take_reply}
use Rattle.spec_workers.specs.Books.{lock_case, Tells}
use Rattle.spec_workers.specs.Turns.{entry}
use Rattle.spec_workers.specs.Inside.Asked.{GivesTake}
use Rattle.spec_workers.proofs.TurnSteps.{take_tested}
use Rattle.spec_workers.proofs.turns.settled_turn.Goals as goal

pub returns-in_ok-settle-in-Seen-clause-ok : goal.returns-in_ok-settle-in-Seen-clause-ok
returns-in_ok-settle-in-Seen-clause-ok g c =
    let seat = c.args.seat.now in
    let rank = c.args.rank in
    let asked = c.ask.new.seat in
    let taken = c.in-Seen.taken in
    let told = subst (λ (a : TakeAnswer). Tells (number seat) (seen seat) (seen asked) (entry (Take (number seat) rank) (take_reply a) ∷ []))
    c.in-Seen.is c.in_ok-ask.ensures.told in
    let given = subst (λ (a : TakeAnswer). GivesTake (lock_case c.args.lock.now) (seen asked) rank a) c.in-Seen.is c.in_ok-ask.ensures.given in
    take_tested (number seat) (number asked) rank taken.rank taken.seen (seen seat) (seen asked) (seen c.settle.new.seat)
    c.in_ok-ask.ensures.same.0 given.0 told c.in_ok-settle-in-Seen.ensures.told
