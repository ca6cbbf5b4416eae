use Rattle.rule_steps.specs.Counted.{IsCounted, nodes_of}
use Rattle.rule_steps.proofs.Closings.{one_more_closed}
use Rattle.rule_steps.proofs.laws.an_answered_place_is_closed.Goals as goal

pub returns : goal.returns
returns c grounds = one_more_closed (nodes_of grounds) (IsCounted grounds)
