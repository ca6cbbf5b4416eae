use Rattle.accuse_core.proofs.FrontLaws.{front_within, decided_before, open_at_front}
use Rattle.accuse_core.proofs.laws.front_is_the_least_undecided_rank.Goals as goal

pub returns-clause-within : goal.returns-clause-within
returns-clause-within c = front_within

pub returns-clause-before : goal.returns-clause-before
returns-clause-before c = decided_before

pub returns-clause-there : goal.returns-clause-there
returns-clause-there c = open_at_front
