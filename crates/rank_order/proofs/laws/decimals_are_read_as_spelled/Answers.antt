use Rattle.rank_order.proofs.DecimalLaws.{reads_back, is_read}
use Rattle.rank_order.proofs.laws.decimals_are_read_as_spelled.Goals as goal

pub returns : goal.returns
returns c = record { read = reads_back; spelled = is_read }
