use Rattle.case_maker.proofs.LengthLaws.{left_is_short, right_is_short, table_is_short}
use Rattle.case_maker.proofs.laws.made_texts_are_short.Goals as goal

pub returns-clause-left : goal.returns-clause-left
returns-clause-left c = left_is_short

pub returns-clause-right : goal.returns-clause-right
returns-clause-right c = right_is_short

pub returns-clause-table : goal.returns-clause-table
returns-clause-table c = table_is_short
