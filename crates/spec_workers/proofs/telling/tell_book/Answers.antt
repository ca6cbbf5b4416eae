use Rattle.std.proofs.Common.{refl, ap, inl, inr}
use Rattle.accuse_core.specs.declared.event.Event.TheVariants as E
use Rattle.commit_book.specs.Books.{BookView}
use Rattle.spec_workers.proofs.FrontLemmas.{verdict_told_moves}
use Rattle.spec_workers.proofs.telling.tell_book.Goals as goal

pub returns-in-No-clause-moves : goal.returns-in-No-clause-moves
returns-in-No-clause-moves c =
    let room = c.in_ok-reserve_turn.ensures.ok in
    let taken = c.args.taken.now in
    verdict_told_moves c.args.book.now c.reserve_turn.new.self c.tell_no.new.self c.args.worker taken
    (E.No c.args.worker taken.rank taken.seen) (ap (λ (book : BookView). book.case) room) (ap (λ (book : BookView). book.entries) room)
    c.tell_no.ensures.told (inl refl) c.journal.ensures.book c.books_are_sound.ensures.kept_before_front c.requires.taken.2.inside

pub returns-in-Yes-clause-moves : goal.returns-in-Yes-clause-moves
returns-in-Yes-clause-moves c =
    let room = c.in_ok-reserve_turn.ensures.ok in
    let taken = c.args.taken.now in
    verdict_told_moves c.args.book.now c.reserve_turn.new.self c.tell_yes.new.self c.args.worker taken
    (E.Yes c.args.worker taken.rank taken.seen) (ap (λ (book : BookView). book.case) room) (ap (λ (book : BookView). book.entries) room)
    c.tell_yes.ensures.told (inr refl) c.journal.ensures.book c.books_are_sound.ensures.kept_before_front c.requires.taken.2.inside
