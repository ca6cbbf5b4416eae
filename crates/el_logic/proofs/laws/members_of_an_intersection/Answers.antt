use Rattle.el_logic.proofs.Members.{from_intersection, to_intersection}
use Rattle.el_logic.proofs.laws.members_of_an_intersection.Goals as goal

pub returns : goal.returns
returns c i x operands = (from_intersection i x operands, λ h. to_intersection i x operands h.0 h.1)
