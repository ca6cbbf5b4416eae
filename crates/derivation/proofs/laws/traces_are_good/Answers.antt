use Rattle.derivation.proofs.Good.{steps_good, ends_in}
use Rattle.derivation.proofs.laws.traces_are_good.Goals as goal

pub returns-clause-good : goal.returns-clause-good
returns-clause-good c case part ranks items place steps each trace = steps_good items place steps trace case part ranks each

pub returns-clause-goal : goal.returns-clause-goal
returns-clause-goal c items place steps item trace at = ends_in items place steps trace item at
