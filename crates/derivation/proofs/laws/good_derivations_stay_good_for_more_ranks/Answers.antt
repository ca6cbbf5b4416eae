use Rattle.derivation.proofs.MoreRanks.{steps_more}
use Rattle.derivation.proofs.laws.good_derivations_stay_good_for_more_ranks.Goals as goal

pub returns-clause-steps : goal.returns-clause-steps
returns-clause-steps c case part ranks more steps wider good = steps_more case part ranks more steps wider good

pub returns-clause-derivation : goal.returns-clause-derivation
returns-clause-derivation c case part ranks more steps wider is =
    record { good = steps_more case part ranks more steps wider is.good; shows = is.shows }
