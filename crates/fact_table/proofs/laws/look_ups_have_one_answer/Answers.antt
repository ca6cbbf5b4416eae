use Rattle.fact_table.specs.Groups.{group_at, node_at}
use Rattle.fact_table.proofs.OneAnswer.{found_once, last_once, next_once}
use Rattle.fact_table.proofs.laws.look_ups_have_one_answer.Goals as goal

pub returns : goal.returns
returns c = record {
  found = found_once;
  last = λ side facts group below one other h g. last_once (group_at side) facts group below one other h g;
  next = λ side facts node after one other h g. next_once (node_at side) facts node after one other h g;
}
