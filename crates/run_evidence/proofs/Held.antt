-- The names of the nodes and roles of a case are held.
use Rattle.std.proofs.Common.{◌≡◌, ◌≤◌, ◌<◌, ◌+◌, ◌^◌, ℕ, zero, suc, List, [], ◌∷◌, ◌++◌, length, map, get_or, sym, ap, subst, arith}
use Rattle.std.specs.Prelude.{Some, slice_get}
use Rattle.std.specs.List.{range_with_len}
use Rattle.std.proofs.lemmas.Option.{slice_get_within, slice_get-get_or}
use Rattle.std.proofs.lemmas.List.Elements.{All-nil, All-cons, All-append}
use Rattle.el_logic.specs.declared.types.Axiom.{Axiom}
use Rattle.el_logic.specs.declared.types.Side.{Side}
use Rattle.concept_store.specs.declared.types.Node.{Node}
use Rattle.concept_store.specs.declared.types.Node.TheVariants as node
use Rattle.concept_store.specs.declared.types.RoleNode.TheVariants as role
use Rattle.concept_store.specs.Nodes.{IsNode, part_count}
use Rattle.concept_store.specs.Roles.{AreOver, Numbered, store_of, roles_of, parts_of, parts_in}
use Rattle.concept_store.specs.Order.{AreInOrder}
use Rattle.case_file.specs.Cases.{CaseView, IsCase}
use Rattle.case_load.specs.declared.texts.Loaded.{Loaded}
use Rattle.valid_evidence.specs.Items.{case_loaded}
use Rattle.run_evidence.specs.Tellable.{IsTellable}
use Rattle.run_evidence.specs.Inside.Named.{IsNodeOver, IsRoleOver, AreNodesOver, AreRolesOver}

-- the law that this rests on
abbrev pub InOrderLaw : Type 0
InOrderLaw = (classes roles : ℕ) (left right : List Axiom) → AreOver classes roles left → AreOver classes roles right
    → AreInOrder classes roles (store_of classes roles left right).nodes

-- nodes in order, of as many classes as there are names
nodes_over : (names : List (List ℕ)) (classes properties : ℕ) (nodes : List Node) → classes ≡ length names → AreInOrder classes properties nodes → AreNodesOver names nodes
nodes_over names classes properties nodes same order = λ k d inside. by k (get_or nodes k d) (slice_get-get_or nodes k d inside)
  where
    by : (k : ℕ) (n : Node) → slice_get nodes k ≡ Some n → IsNodeOver names n
    by k node.Top at = tt
    by k node.Bottom at = tt
    by k (node.Class class) at = let low = order.no_other_name k class at in omega (arith, same, low)
    by k (node.And one other) at = tt
    by k (node.Exists r filler) at = tt

-- properties, and parts of chains
named_over : (names : List (List ℕ)) (start count : ℕ) → start + count ≤ length names → AreRolesOver names (map role.Named (range_with_len start count))
named_over names start zero small = All-nil (IsRoleOver names)
named_over names start (suc count) small =
    All-cons (IsRoleOver names) (role.Named start) (map role.Named (range_with_len (start + 1) count)) (omega arith) (named_over names (start + 1) count (omega arith))

fronts_over : (names : List (List ℕ)) (side : Side) (number start count : ℕ) → AreRolesOver names (map (role.Part side number) (range_with_len start count))
fronts_over names side number start zero = All-nil (IsRoleOver names)
fronts_over names side number start (suc count) =
    All-cons (IsRoleOver names) (role.Part side number start) (map (role.Part side number) (range_with_len (start + 1) count)) tt (fronts_over names side number (start + 1) count)

parts_over : (names : List (List ℕ)) (side : Side) (number : ℕ) (axioms : List Axiom) → AreRolesOver names (parts_in side number axioms)
parts_over names side number [] = All-nil (IsRoleOver names)
parts_over names side number (a ∷ axioms) =
    All-append (IsRoleOver names) (parts_of side number a) (parts_in side (number + 1) axioms) (fronts_over names side number 2 (part_count a)) (parts_over names side (number + 1) axioms)

roles_over : (names : List (List ℕ)) (properties : ℕ) (left right : List Axiom) → properties ≡ length names → AreRolesOver names (roles_of properties left right)
roles_over names properties left right same =
    All-append (IsRoleOver names) (map role.Named (range_with_len 0 properties) ++ parts_in Side.Left 1 left) (parts_in Side.Right 1 right)
    (All-append (IsRoleOver names) (map role.Named (range_with_len 0 properties)) (parts_in Side.Left 1 left)
    (named_over names 0 properties (omega arith)) (parts_over names Side.Left 1 left))
    (parts_over names Side.Right 1 right)

module _ (law : InOrderLaw) (case : CaseView) (is : IsCase case) where
  -- the nodes of a case are in order
  in_order : AreInOrder case.classes case.properties case.store.nodes
  in_order = subst (λ (s : Numbered). AreInOrder case.classes case.properties s.nodes) (sym (ap (λ (c : CaseView). c.store) is.built))
      (law case.classes case.properties case.left case.right is.given.left is.given.right)

  pub case_nodes_over : (names : List (List ℕ)) → case.classes ≡ length names → AreNodesOver names case.store.nodes
  case_nodes_over names same = nodes_over names case.classes case.properties case.store.nodes same in_order

  pub case_roles_over : (names : List (List ℕ)) → case.properties ≡ length names → AreRolesOver names case.store.roles
  case_roles_over names same = subst (λ (s : Numbered). AreRolesOver names s.roles) (sym (ap (λ (c : CaseView). c.store) is.built))
      (roles_over names case.properties case.left case.right same)

  -- each class has a node, so there are not too many
  pub few_classes : length case.store.nodes < 2 ^ 32 → case.classes + 2 ≤ 2 ^ 32
  few_classes small = by case.classes (λ k low. in_order.names k low)
    where
      by : (classes : ℕ) → ((k : ℕ) → k < classes → IsNode case.store.nodes (k + 2) (node.Class k)) → classes + 2 ≤ 2 ^ 32
      by zero names = omega arith
      by (suc k) names = let low = slice_get_within case.store.nodes (k + 2) (node.Class k) (names k (omega arith)) in omega arith

-- the same of what is loaded
module _ (law : InOrderLaw) (loaded : Loaded) (tellable : IsTellable loaded) (case : CaseView) (same : case ≡ case_loaded loaded) (is : IsCase case) where
  own : IsCase (case_loaded loaded)
  own = subst IsCase same is

  pub held_nodes : AreNodesOver loaded.names.classes.names (case_loaded loaded).store.nodes
  held_nodes = case_nodes_over law (case_loaded loaded) own loaded.names.classes.names tellable.classes

  pub held_roles : AreRolesOver loaded.names.roles.names (case_loaded loaded).store.roles
  held_roles = case_roles_over law (case_loaded loaded) own loaded.names.roles.names tellable.properties

  pub held_classes : length case.store.nodes < 2 ^ 32 → (case_loaded loaded).classes + 2 ≤ 2 ^ 32
  held_classes small = few_classes law (case_loaded loaded) own (subst (λ (c : CaseView). length c.store.nodes < 2 ^ 32) same small)
