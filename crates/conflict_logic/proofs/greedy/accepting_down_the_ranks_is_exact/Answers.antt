use Rattle.conflict_logic.proofs.GreedyLaws.{kept_below_is_exact}
use Rattle.conflict_logic.proofs.greedy.accepting_down_the_ranks_is_exact.Goals as goal

pub returns : goal.returns
returns c = λ test count closed none. kept_below_is_exact test closed none count
