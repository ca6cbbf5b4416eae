use Rattle.accuse_core.proofs.VerdictLaws.{no_moves, yes_moves}
use Rattle.accuse_core.proofs.laws.verdicts_at_the_front_move_it.Goals as goal

pub returns-clause-no : goal.returns-clause-no
returns-clause-no c = λ marks worker seen inside. no_moves marks inside

pub returns-clause-yes : goal.returns-clause-yes
returns-clause-yes c = λ marks worker inside. yes_moves marks inside
