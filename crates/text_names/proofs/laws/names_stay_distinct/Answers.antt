use Rattle.text_names.proofs.StayLaws.{distinct_more}
use Rattle.text_names.proofs.laws.names_stay_distinct.Goals as goal

pub returns-clause-none : goal.returns-clause-none
returns-clause-none c = λ k name at. cc

pub returns-clause-more : goal.returns-clause-more
returns-clause-more c = distinct_more
