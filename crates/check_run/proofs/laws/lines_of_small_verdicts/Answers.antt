use Rattle.std.proofs.Common.{refl}
use Rattle.std.specs.Fmt.{digits}
use Rattle.check_run.proofs.laws.lines_of_small_verdicts.Goals as goal

pub returns-clause-step : goal.returns-clause-step
unfolding digits
returns-clause-step c = refl

pub returns-clause-axiom_left : goal.returns-clause-axiom_left
unfolding digits
returns-clause-axiom_left c = refl

pub returns-clause-axiom_row : goal.returns-clause-axiom_row
unfolding digits
returns-clause-axiom_row c = refl

pub returns-clause-length : goal.returns-clause-length
unfolding digits
returns-clause-length c = refl

pub returns-clause-entry : goal.returns-clause-entry
unfolding digits
returns-clause-entry c = refl
