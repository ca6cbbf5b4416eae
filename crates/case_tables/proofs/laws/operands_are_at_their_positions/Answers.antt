use Rattle.case_tables.specs.Entries.{operands_said}
use Rattle.case_tables.specs.Named.{IsOperandAt}
use Rattle.case_tables.proofs.EntryLaws.{said_has, has_said}
use Rattle.case_tables.proofs.OperandLaws.{operand_has, has_operand}
use Rattle.case_tables.proofs.laws.operands_are_at_their_positions.Goals as goal

pub returns : goal.returns
returns c case node entry = (
  said_has operands_said (λ e. e.source) (λ said key e. IsOperandAt said e.position key) operand_has case node entry,
  has_said operands_said (λ e. e.source) (λ said key e. IsOperandAt said e.position key) has_operand case node entry,
)
