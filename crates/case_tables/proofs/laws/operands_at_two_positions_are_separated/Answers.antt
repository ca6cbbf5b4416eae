use Rattle.case_tables.proofs.OperandLaws.{separates_at, at_separates}
use Rattle.case_tables.proofs.laws.operands_at_two_positions_are_separated.Goals as goal

pub returns : goal.returns
returns c said one other = (separates_at said one other, at_separates said one other)
