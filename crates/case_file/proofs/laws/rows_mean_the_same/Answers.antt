use Rattle.case_file.proofs.ReadingLaws.{rank_means}
use Rattle.case_file.proofs.laws.rows_mean_the_same.Goals as goal

pub returns : goal.returns
returns c case rank is within = rank_means case is rank
