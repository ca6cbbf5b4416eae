use Rattle.accuse_core.proofs.StayLaws.{take_stays, take_front_stays}
use Rattle.accuse_core.proofs.laws.asking_leaves_the_marks.Goals as goal

pub returns-clause-rank : goal.returns-clause-rank
returns-clause-rank c = take_stays

pub returns-clause-front : goal.returns-clause-front
returns-clause-front c = take_front_stays
