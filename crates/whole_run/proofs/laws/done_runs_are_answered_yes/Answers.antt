use Rattle.whole_run.proofs.Names.{names_are_apart, names_are_check}
use Rattle.whole_run.proofs.Left.{done_answered}
use Rattle.whole_run.proofs.laws.done_runs_are_answered_yes.Goals as goal

pub returns-clause-words : goal.returns-clause-words
returns-clause-words c = names_are_check

pub returns-clause-yes : goal.returns-clause-yes
returns-clause-yes c = λ words el_part workers names limits run check answer given is after.
    done_answered c.texts_are_what_is_read.ensures.again el_part names (names_are_apart words el_part workers names given) limits run check answer is after
