use Rattle.rank_order.proofs.OrderLaws.{rank_of_place, row_of_rank}
use Rattle.rank_order.proofs.laws.ranking_lists_by_rank.Goals as goal

pub returns : goal.returns
returns c = record {
  rank_of_place = λ confidences rows place ranking within. rank_of_place confidences rows ranking place within;
  row_of_rank = λ confidences rows row ranking within. row_of_rank confidences rows ranking row within;
}
