use Rattle.el_logic.proofs.ModelLaws.{member_below}
use Rattle.el_logic.proofs.laws.members_are_elements.Goals as goal

pub returns : goal.returns
returns c classes roles i x expression = member_below classes roles i x expression
