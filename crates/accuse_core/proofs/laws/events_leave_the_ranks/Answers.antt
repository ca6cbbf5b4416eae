use Rattle.accuse_core.proofs.EventLaws.{outcome_length}
use Rattle.accuse_core.proofs.JournalLaws.{replayed_length}
use Rattle.accuse_core.proofs.laws.events_leave_the_ranks.Goals as goal

pub returns-clause-step : goal.returns-clause-step
returns-clause-step c = outcome_length

pub returns-clause-journal : goal.returns-clause-journal
returns-clause-journal c = replayed_length
