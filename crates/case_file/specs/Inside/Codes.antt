-- By which parts cases are told apart.
use Rattle.std.specs.Prelude.{ℕ, List, refl}
use Rattle.std.specs.Coded.{Coded, code_by, coded×, coded_list, coded_ℕ}
use Rattle.el_logic.specs.declared.types.Axiom.{Axiom}
use Rattle.el_logic.specs.contracts.types.Axiom as given
use Rattle.concept_store.specs.declared.types.Node.{Node}
use Rattle.concept_store.specs.declared.types.RoleNode.{RoleNode}
use Rattle.concept_store.specs.declared.types.NodeAxiom.{NodeAxiom}
use Rattle.concept_store.specs.contracts.types.Node as node
use Rattle.concept_store.specs.contracts.types.RoleNode as role
use Rattle.concept_store.specs.contracts.types.NodeAxiom as over
use Rattle.concept_store.specs.Roles.{Numbered}
use Rattle.case_file.specs.Cases.{CaseView}

abbrev StoreParts : Type 0
StoreParts = List Node × (List RoleNode × (List NodeAxiom × List NodeAxiom))

abbrev pub numbered_code : Coded Numbered
numbered_code = code_by StoreParts
    (coded× (coded_list node.the_row.coded) (coded× (coded_list role.the_row.coded) (coded× (coded_list over.the_row.coded) (coded_list over.the_row.coded))))
    (λ s. (s.nodes, (s.roles, (s.left, s.right))))
    (λ p. record { nodes = p.0; roles = p.1.0; left = p.1.1.0; right = p.1.1.1 })
    (λ _. refl)

abbrev CaseParts : Type 0
CaseParts = Numbered × (List Axiom × (List Axiom × (List (List Axiom) × (List ℕ × (List (List NodeAxiom) × (ℕ × (ℕ × List ℕ)))))))

abbrev pub case_code : Coded CaseView
case_code = code_by CaseParts
    (coded× numbered_code (coded× (coded_list given.the_row.coded) (coded× (coded_list given.the_row.coded) (coded× (coded_list (coded_list given.the_row.coded))
    (coded× (coded_list coded_ℕ) (coded× (coded_list (coded_list over.the_row.coded)) (coded× coded_ℕ (coded× coded_ℕ (coded_list coded_ℕ)))))))))
    (λ c. (c.store, (c.left, (c.right, (c.rows, (c.order, (c.over, (c.classes, (c.properties, c.excused)))))))))
    (λ p. record { store = p.0; left = p.1.0; right = p.1.1.0; rows = p.1.1.1.0; order = p.1.1.1.1.0; over = p.1.1.1.1.1.0; classes = p.1.1.1.1.1.1.0; properties = p.1.1.1.1.1.1.1.0; excused = p.1.1.1.1.1.1.1.1 })
    (λ _. refl)
