use Rattle.std.proofs.Common.{◌∙◌, ◌≡◌, ◌<◌, ◌+◌, List, ap, subst, length, arith}
use Rattle.el_logic.specs.declared.types.Axiom.{Axiom}
use Rattle.concept_store.specs.Faults.{IsStoreFault}
use Rattle.concept_store.specs.Nodes.{parts_within}
use Rattle.concept_store.specs.Roles.{roles_of}
use Rattle.concept_store.specs.Inside.Numbering.{numbered_axioms, in_32_bits, AreAxiomsShort}
use Rattle.concept_store.proofs.BuildLaws.{short_axioms, fault_weaker, nodes_after_left, nodes_after_right, left_after, right_after, roles_small, left_means, right_means, many_names, many_left, many_right, few_trees}
use Rattle.concept_store.proofs.build.build_store.Goals as goal

pub returns-in-Err-clause-fault : goal.returns-in-Err-clause-fault
returns-in-Err-clause-fault c =
    fault_weaker (many_names c.args.classes c.args.roles c.args.left.now c.args.right.now c.requires.left c.requires.right c.args.most_nodes) (λ (none : ⊥). absurd none) c.in-Err.fault c.in-Err.ensures.fault

pub returns-in-Err-number_axioms-clause-fault : goal.returns-in-Err-number_axioms-clause-fault
returns-in-Err-number_axioms-clause-fault c =
    let faulty = subst (λ (axioms : List Axiom). AreAxiomsShort axioms → IsStoreFault (c.args.most_nodes < length (numbered_axioms c.args.roles axioms c.in-Ok.nodes.keys).1) ⊥ c.in-Err-number_axioms.fault) c.as_slice.ensures c.in-Err-number_axioms.ensures.fault in
    fault_weaker (many_left c.args.classes c.args.roles c.args.left.now c.args.right.now c.requires.left c.requires.right c.args.most_nodes c.in-Ok.nodes.keys c.in-Ok.ensures.nodes) (λ (none : ⊥). absurd none) c.in-Err-number_axioms.fault
    (faulty (short_axioms c.args.classes c.args.roles c.args.most_nodes c.in-Ok.ensures.short (omega (arith, c.ranges.most_nodes)) c.args.left.now c.requires.left.each))

pub returns-in-Err-number_axioms-2-clause-fault : goal.returns-in-Err-number_axioms-2-clause-fault
returns-in-Err-number_axioms-2-clause-fault c =
    let nodes1 = nodes_after_left c.args.classes c.args.roles c.args.left.now c.args.right.now c.requires.left c.requires.right c.in-Ok.nodes.keys c.number_axioms.new.nodes.keys c.in-Ok.ensures.nodes
    (c.in-Ok-number_axioms.ensures.nodes ∙ ap (λ axioms. (numbered_axioms c.args.roles axioms c.in-Ok.nodes.keys).1) c.as_slice.ensures) in
    let faulty = subst (λ (axioms : List Axiom). AreAxiomsShort axioms → IsStoreFault (c.args.most_nodes < length (numbered_axioms c.in-Ok-number_axioms.found.1 axioms c.number_axioms.new.nodes.keys).1) ⊥ c.in-Err-number_axioms-2.fault) c.as_slice-2.ensures c.in-Err-number_axioms-2.ensures.fault in
    fault_weaker (many_right c.args.classes c.args.roles c.args.left.now c.args.right.now c.requires.left c.requires.right c.args.most_nodes c.in-Ok-number_axioms.found.1 c.number_axioms.new.nodes.keys nodes1) (λ (none : ⊥). absurd none) c.in-Err-number_axioms-2.fault
    (faulty (short_axioms c.args.classes c.args.roles c.args.most_nodes c.in-Ok.ensures.short (omega (arith, c.ranges.most_nodes)) c.args.right.now c.requires.right.each))

pub returns-in-Ok-list_roles-clause-store : goal.returns-in-Ok-list_roles-clause-store
returns-in-Ok-list_roles-clause-store c =
    let nodes1 = nodes_after_left c.args.classes c.args.roles c.args.left.now c.args.right.now c.requires.left c.requires.right c.in-Ok.nodes.keys c.number_axioms.new.nodes.keys c.in-Ok.ensures.nodes
    (c.in-Ok-number_axioms.ensures.nodes ∙ ap (λ axioms. (numbered_axioms c.args.roles axioms c.in-Ok.nodes.keys).1) c.as_slice.ensures) in
    let nodes2 = nodes_after_right c.args.classes c.args.roles c.args.left.now c.args.right.now c.requires.left c.requires.right c.in-Ok-number_axioms.found.1 c.number_axioms.new.nodes.keys c.number_axioms-2.new.nodes.keys nodes1
    (c.in-Ok-number_axioms-2.ensures.nodes ∙ ap (λ axioms. (numbered_axioms c.in-Ok-number_axioms.found.1 axioms c.number_axioms.new.nodes.keys).1) c.as_slice-2.ensures) in
    let roles_are : c.in-Ok-list_roles.roles.items ≡ roles_of c.args.roles c.args.left.now c.args.right.now = c.in-Ok-list_roles.ensures.roles ∙ (λ i. roles_of c.args.roles (c.as_slice-3.ensures i) (c.as_slice-4.ensures i)) in
    let small = roles_small c.args.classes c.args.roles c.args.left.now c.args.right.now c.requires.left c.requires.right (length c.in-Ok-list_roles.roles.items) c.args.most_roles (ap length roles_are) c.in-Ok-list_roles.ensures.room (omega (arith, c.ranges.most_roles)) in
    let left_is = left_after c.args.classes c.args.roles c.args.left.now c.args.right.now c.requires.left c.requires.right c.in-Ok.nodes.keys c.in-Ok-number_axioms.found.0.items c.in-Ok.ensures.nodes
    (c.in-Ok-number_axioms.ensures.over ∙ ap (λ axioms. (numbered_axioms c.args.roles axioms c.in-Ok.nodes.keys).0) c.as_slice.ensures) (omega (arith, small)) in
    let right_is = right_after c.args.classes c.args.roles c.args.left.now c.args.right.now c.requires.left c.requires.right c.in-Ok-number_axioms.found.1 c.number_axioms.new.nodes.keys c.in-Ok-number_axioms-2.found.0.items nodes1
    (c.in-Ok-number_axioms-2.ensures.over ∙ ap (λ axioms. (numbered_axioms c.in-Ok-number_axioms.found.1 axioms c.number_axioms.new.nodes.keys).0) c.as_slice-2.ensures)
    (c.in-Ok-number_axioms.ensures.next ∙ ap (λ axioms. in_32_bits (c.args.roles + parts_within axioms)) c.as_slice.ensures) small in
    λ i. record { nodes = nodes2 i; roles = roles_are i; left = left_is i; right = right_is i }

pub returns-in-Ok-list_roles-clause-left_meaning : goal.returns-in-Ok-list_roles-clause-left_meaning
returns-in-Ok-list_roles-clause-left_meaning c =
    let nodes1 = nodes_after_left c.args.classes c.args.roles c.args.left.now c.args.right.now c.requires.left c.requires.right c.in-Ok.nodes.keys c.number_axioms.new.nodes.keys c.in-Ok.ensures.nodes
    (c.in-Ok-number_axioms.ensures.nodes ∙ ap (λ axioms. (numbered_axioms c.args.roles axioms c.in-Ok.nodes.keys).1) c.as_slice.ensures) in
    let nodes2 = nodes_after_right c.args.classes c.args.roles c.args.left.now c.args.right.now c.requires.left c.requires.right c.in-Ok-number_axioms.found.1 c.number_axioms.new.nodes.keys c.number_axioms-2.new.nodes.keys nodes1
    (c.in-Ok-number_axioms-2.ensures.nodes ∙ ap (λ axioms. (numbered_axioms c.in-Ok-number_axioms.found.1 axioms c.number_axioms.new.nodes.keys).1) c.as_slice-2.ensures) in
    let roles_are : c.in-Ok-list_roles.roles.items ≡ roles_of c.args.roles c.args.left.now c.args.right.now = c.in-Ok-list_roles.ensures.roles ∙ (λ i. roles_of c.args.roles (c.as_slice-3.ensures i) (c.as_slice-4.ensures i)) in
    let small = roles_small c.args.classes c.args.roles c.args.left.now c.args.right.now c.requires.left c.requires.right (length c.in-Ok-list_roles.roles.items) c.args.most_roles (ap length roles_are) c.in-Ok-list_roles.ensures.room (omega (arith, c.ranges.most_roles)) in
    let left_is = left_after c.args.classes c.args.roles c.args.left.now c.args.right.now c.requires.left c.requires.right c.in-Ok.nodes.keys c.in-Ok-number_axioms.found.0.items c.in-Ok.ensures.nodes
    (c.in-Ok-number_axioms.ensures.over ∙ ap (λ axioms. (numbered_axioms c.args.roles axioms c.in-Ok.nodes.keys).0) c.as_slice.ensures) (omega (arith, small)) in
    left_means c.args.classes c.args.roles c.args.left.now c.args.right.now c.requires.left c.requires.right c.number_axioms-2.new.nodes.keys c.in-Ok-number_axioms.found.0.items nodes2 left_is

pub returns-in-Ok-list_roles-clause-right_meaning : goal.returns-in-Ok-list_roles-clause-right_meaning
returns-in-Ok-list_roles-clause-right_meaning c =
    let nodes1 = nodes_after_left c.args.classes c.args.roles c.args.left.now c.args.right.now c.requires.left c.requires.right c.in-Ok.nodes.keys c.number_axioms.new.nodes.keys c.in-Ok.ensures.nodes
    (c.in-Ok-number_axioms.ensures.nodes ∙ ap (λ axioms. (numbered_axioms c.args.roles axioms c.in-Ok.nodes.keys).1) c.as_slice.ensures) in
    let nodes2 = nodes_after_right c.args.classes c.args.roles c.args.left.now c.args.right.now c.requires.left c.requires.right c.in-Ok-number_axioms.found.1 c.number_axioms.new.nodes.keys c.number_axioms-2.new.nodes.keys nodes1
    (c.in-Ok-number_axioms-2.ensures.nodes ∙ ap (λ axioms. (numbered_axioms c.in-Ok-number_axioms.found.1 axioms c.number_axioms.new.nodes.keys).1) c.as_slice-2.ensures) in
    let roles_are : c.in-Ok-list_roles.roles.items ≡ roles_of c.args.roles c.args.left.now c.args.right.now = c.in-Ok-list_roles.ensures.roles ∙ (λ i. roles_of c.args.roles (c.as_slice-3.ensures i) (c.as_slice-4.ensures i)) in
    let small = roles_small c.args.classes c.args.roles c.args.left.now c.args.right.now c.requires.left c.requires.right (length c.in-Ok-list_roles.roles.items) c.args.most_roles (ap length roles_are) c.in-Ok-list_roles.ensures.room (omega (arith, c.ranges.most_roles)) in
    let right_is = right_after c.args.classes c.args.roles c.args.left.now c.args.right.now c.requires.left c.requires.right c.in-Ok-number_axioms.found.1 c.number_axioms.new.nodes.keys c.in-Ok-number_axioms-2.found.0.items nodes1
    (c.in-Ok-number_axioms-2.ensures.over ∙ ap (λ axioms. (numbered_axioms c.in-Ok-number_axioms.found.1 axioms c.number_axioms.new.nodes.keys).0) c.as_slice-2.ensures)
    (c.in-Ok-number_axioms.ensures.next ∙ ap (λ axioms. in_32_bits (c.args.roles + parts_within axioms)) c.as_slice.ensures) small in
    right_means c.args.classes c.args.roles c.args.left.now c.args.right.now c.requires.left c.requires.right c.number_axioms-2.new.nodes.keys c.in-Ok-number_axioms-2.found.0.items nodes2 right_is

pub returns-in-Err-list_roles-clause-fault : goal.returns-in-Err-list_roles-clause-fault
returns-in-Err-list_roles-clause-fault c =
    let nodes1 = nodes_after_left c.args.classes c.args.roles c.args.left.now c.args.right.now c.requires.left c.requires.right c.in-Ok.nodes.keys c.number_axioms.new.nodes.keys c.in-Ok.ensures.nodes
    (c.in-Ok-number_axioms.ensures.nodes ∙ ap (λ axioms. (numbered_axioms c.args.roles axioms c.in-Ok.nodes.keys).1) c.as_slice.ensures) in
    let nodes2 = nodes_after_right c.args.classes c.args.roles c.args.left.now c.args.right.now c.requires.left c.requires.right c.in-Ok-number_axioms.found.1 c.number_axioms.new.nodes.keys c.number_axioms-2.new.nodes.keys nodes1
    (c.in-Ok-number_axioms-2.ensures.nodes ∙ ap (λ axioms. (numbered_axioms c.in-Ok-number_axioms.found.1 axioms c.number_axioms.new.nodes.keys).1) c.as_slice-2.ensures) in
    let few = few_trees c.args.classes c.args.roles c.args.left.now c.args.right.now c.requires.left c.requires.right c.args.most_nodes c.number_axioms-2.new.nodes.keys nodes2 (c.in-Ok-number_axioms-2.ensures.room (c.in-Ok-number_axioms.ensures.room c.in-Ok.ensures.room)) in
    let roles_are : length (roles_of c.args.roles c.as_slice-3.result.now c.as_slice-4.result.now) ≡ length (roles_of c.args.roles c.args.left.now c.args.right.now) = λ i. length (roles_of c.args.roles (c.as_slice-3.ensures i) (c.as_slice-4.ensures i)) in
    fault_weaker (λ (none : ⊥). absurd none) (λ many. (few, subst (λ n. c.args.most_roles < n) roles_are many)) c.in-Err-list_roles.fault c.in-Err-list_roles.ensures.fault
