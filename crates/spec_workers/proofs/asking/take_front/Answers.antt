use Rattle.std.proofs.Common.{◌∙◌, sym}
use Rattle.spec_workers.proofs.GivenTakes.{given_front}
use Rattle.spec_workers.proofs.asking.take_front.Goals as goal

pub returns-clause-given : goal.returns-clause-given
returns-clause-given c =
    let ready = c.reserve_turn.new.self in
    let after = c.take_front-answer.new.self in
    let told = c.take_front-answer.ensures.told in
    let core = c.journal-2.ensures.book.core in
    let same = sym (c.asking_leaves_the_marks.ensures.front ready.marks) ∙ (sym told.marks ∙ core) in
    given_front ready after c.take_front-answer.result same (sym told.case)
    c.books_are_sound.ensures.kept_before_front (c.front_is_the_least_undecided_rank.ensures.within ready.marks)
    c.journal.ensures.book.ranks c.take_front-answer.ensures.reply c.take_front-answer.ensures.given
