use Rattle.std.proofs.Common.{length, ap, arith}
use Rattle.concept_store.specs.Roles.{Numbered}
use Rattle.run_evidence.proofs.Held.{held_nodes, held_roles, held_classes}
use Rattle.run_evidence.proofs.whole.names_are_held.Goals as goal

pub returns-clause-nodes : goal.returns-clause-nodes
returns-clause-nodes c = held_nodes c.nodes_stand_in_order.ensures c.args.loaded.now c.requires c.case_of-case.result.now c.case_of-case.ensures.value c.case_of-case.ensures.case

pub returns-clause-roles : goal.returns-clause-roles
returns-clause-roles c = held_roles c.nodes_stand_in_order.ensures c.args.loaded.now c.requires c.case_of-case.result.now c.case_of-case.ensures.value c.case_of-case.ensures.case

pub returns-clause-classes : goal.returns-clause-classes
returns-clause-classes c =
    held_classes c.nodes_stand_in_order.ensures c.args.loaded.now c.requires c.case_of-case.result.now c.case_of-case.ensures.value c.case_of-case.ensures.case
    (omega (arith, c.nodes-count.ensures, c.nodes-count.type_inv, ap (λ (s : Numbered). length s.nodes) c.store-store.ensures.store))
