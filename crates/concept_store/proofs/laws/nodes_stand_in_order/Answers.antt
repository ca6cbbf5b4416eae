use Rattle.concept_store.proofs.OrderLaws.{in_order}
use Rattle.concept_store.proofs.laws.nodes_stand_in_order.Goals as goal

pub returns : goal.returns
returns c classes roles left right over_left over_right = in_order classes roles left right over_left over_right
