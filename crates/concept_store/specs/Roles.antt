-- The roles of two ontologies, in their order, and what a store is of.
use Rattle.std.specs.Prelude.{ℕ, ◌+◌, ◌^◌, ◌<◌, ◌≤◌, List, [], ◌∷◌, ◌++◌, map, length, All, ⊤}
use Rattle.std.specs.List.{range_with_len}
use Rattle.el_logic.specs.declared.types.Axiom.{Axiom}
use Rattle.el_logic.specs.declared.types.Axiom.TheVariants as A
use Rattle.el_logic.specs.declared.types.Side.{Side}
use Rattle.concept_store.specs.declared.types.Node.{Node}
use Rattle.concept_store.specs.declared.types.NodeAxiom.{NodeAxiom}
use Rattle.concept_store.specs.declared.types.RoleNode.{RoleNode}
use Rattle.concept_store.specs.declared.types.RoleNode.TheVariants.{Named, Part}
use Rattle.concept_store.specs.Trees.{tree_of, IsTreeOver}
use Rattle.concept_store.specs.Nodes.{expressions, trees_of, nodes_over, all_over, part_count, parts_within}

-- the parts of an axiom's chain: its fronts of length 2 and more, without the whole chain
abbrev pub parts_of : Side → ℕ → Axiom → List RoleNode
parts_of side number axiom' = map (Part side number) (range_with_len 2 (part_count axiom'))

-- those of axioms that are numbered from here on
abbrev pub parts_in : Side → ℕ → List Axiom → List RoleNode
parts_in side number [] = []
parts_in side number (axiom' ∷ axioms) = parts_of side number axiom' ++ parts_in side (number + 1) axioms

-- the property names, then the parts of LEFT's and of RIGHT's chains
abbrev pub roles_of : ℕ → List Axiom → List Axiom → List RoleNode
roles_of roles left right = map Named (range_with_len 0 roles) ++ parts_in Side.Left 1 left ++ parts_in Side.Right 1 right

-- what a store has
pub record Numbered : Type 0 where
  pub nodes : List Node
  pub roles : List RoleNode
  pub left : List NodeAxiom
  pub right : List NodeAxiom

-- the store of two ontologies
abbrev pub store_of : ℕ → ℕ → List Axiom → List Axiom → Numbered
store_of classes roles left right = record {
  nodes = nodes_over (trees_of classes left right);
  roles = roles_of roles left right;
  left = all_over (trees_of classes left right) roles left;
  right = all_over (trees_of classes left right) (roles + parts_within left) right;
}

-- the property names of an axiom
abbrev pub properties : Axiom → List ℕ
properties (A.SubRole chain role) = role ∷ chain
properties (A.EquivalentRoles roles) = roles
properties (A.Transitive role) = role ∷ []
properties (A.Reflexive role) = role ∷ []
properties (A.Domain role expr) = role ∷ []
properties _ = []

-- a chain has a property, and not so many that 32 bits don't count them
abbrev pub HasChain : Axiom → Type 0
HasChain (A.SubRole chain role) = (1 ≤ length chain) × (length chain < 2 ^ 31)
HasChain _ = ⊤

-- the names in an axiom are among this number of classes and of properties
pub record IsOver (classes roles : ℕ) (axiom' : Axiom) : Type 0 where
  pub names : All (λ expr. IsTreeOver classes roles (tree_of expr)) (expressions axiom')
  pub properties : All (λ role. role < roles) (properties axiom')
  pub chain : HasChain axiom'

-- so it is in each of these axioms, of which 32 bits count the number
pub record AreOver (classes roles : ℕ) (axioms : List Axiom) : Type 0 where
  pub few : length axioms < 2 ^ 31
  pub each : All (IsOver classes roles) axioms
