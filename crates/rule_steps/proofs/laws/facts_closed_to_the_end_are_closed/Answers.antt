use Rattle.rule_steps.specs.Counted.{IsCounted, nodes_of}
use Rattle.rule_steps.proofs.Closings.{all_closed}
use Rattle.rule_steps.proofs.laws.facts_closed_to_the_end_are_closed.Goals as goal

pub returns : goal.returns
returns c grounds = all_closed (nodes_of grounds) (IsCounted grounds)
