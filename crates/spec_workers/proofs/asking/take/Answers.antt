use Rattle.std.proofs.Common.{◌∙◌, sym, subst}
use Rattle.std.proofs.Common.{◌<◌}
use Rattle.commit_book.specs.Books.{BookView, ranks_of}
use Rattle.spec_workers.proofs.GivenTakes.{given_take, keeps_first}
use Rattle.spec_workers.proofs.asking.take.Goals as goal

pub returns-clause-given : goal.returns-clause-given
returns-clause-given c =
    let ready = c.reserve_turn.new.self in
    let after = c.take-answer.new.self in
    let told = c.take-answer.ensures.told in
    let core = c.journal-2.ensures.book.core in
    let same = sym (c.asking_leaves_the_marks.ensures.rank ready.marks c.args.rank) ∙ (sym told.marks ∙ core) in
    let room = c.in_ok-reserve_turn.ensures.ok in
    let inside = subst (λ (book : BookView). c.args.rank < ranks_of book.case) (sym room) c.requires.inside in
    given_take ready after c.args.rank c.take-answer.result same (sym told.case)
    c.books_are_sound.ensures.kept_before_front c.books_are_sound.ensures.decided_before_front
    inside c.take-answer.ensures.reply c.take-answer.ensures.given

pub returns-clause-first : goal.returns-clause-first
returns-clause-first c =
    keeps_first c.take-answer.new.self c.journal-2.ensures.book.core c.kept_ranks_stay_first.ensures
