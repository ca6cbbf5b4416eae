use Rattle.rule_steps.proofs.GrowthLaws.{item_at}
use Rattle.rule_steps.proofs.laws.facts_stand_where_their_items_do.Goals as goal

pub returns : goal.returns
returns c = item_at
