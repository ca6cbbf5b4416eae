use Rattle.case_file.proofs.CaseLaws.{in_order, are_nodes, must_have_within, stated_chain}
use Rattle.case_file.proofs.laws.cases_have_nodes.Goals as goal

pub returns-clause-nodes : goal.returns-clause-nodes
returns-clause-nodes c case is = are_nodes case.classes case.properties case.store.nodes (in_order c.nodes_stand_in_order.ensures case is)

pub returns-clause-must_have : goal.returns-clause-must_have
returns-clause-must_have c case node is must = must_have_within case node (in_order c.nodes_stand_in_order.ensures case is) must

pub returns-clause-chains : goal.returns-clause-chains
returns-clause-chains c case part ranks said is stated = stated_chain case is ranks said part stated
