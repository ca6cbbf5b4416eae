use Rattle.saturate.proofs.NodeLaws.{link_from_node}
use Rattle.saturate.proofs.laws.links_lead_from_nodes.Goals as goal

pub returns : goal.returns
returns c grounds items k a r b derived at = link_from_node grounds items (c.facts_stand_where_their_items_do.ensures items) derived k a r b at
