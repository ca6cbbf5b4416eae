use Rattle.rank_order.proofs.OrderLaws.{ranked_count, ranked_within, ranked_once}
use Rattle.rank_order.proofs.laws.ranking_has_each_row_once.Goals as goal

pub returns : goal.returns
returns c = record {
  count = ranked_count;
  within = λ confidences rows place ranking within. ranked_within confidences rows ranking place within;
  once = λ confidences rows one other ranking first second same. ranked_once confidences rows ranking one other first second same;
}
