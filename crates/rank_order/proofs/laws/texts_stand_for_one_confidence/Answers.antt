use Rattle.rank_order.proofs.ConfidenceLaws.{one_value}
use Rattle.rank_order.proofs.laws.texts_stand_for_one_confidence.Goals as goal

pub returns : goal.returns
returns c = one_value
