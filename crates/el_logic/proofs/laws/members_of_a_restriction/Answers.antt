use Rattle.el_logic.proofs.Members.{from_restriction, to_restriction}
use Rattle.el_logic.proofs.laws.members_of_a_restriction.Goals as goal

pub returns : goal.returns
returns c i x r filler = (from_restriction i x r filler, to_restriction i x r filler)
