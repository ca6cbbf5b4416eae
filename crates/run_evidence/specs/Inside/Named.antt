-- Nodes and roles whose names are held.
use Rattle.std.specs.Prelude.{ℕ, ◌<◌, List, length, All, ⊤}
use Rattle.concept_store.specs.declared.types.Node.{Node}
use Rattle.concept_store.specs.declared.types.Node.TheVariants as node
use Rattle.concept_store.specs.declared.types.RoleNode.{RoleNode}
use Rattle.concept_store.specs.declared.types.RoleNode.TheVariants as role

-- a class of the node is one of these names, and a property of the role is
abbrev pub IsNodeOver : List (List ℕ) → Node → Type 0
IsNodeOver names (node.Class class) = class < length names
IsNodeOver names _ = ⊤

abbrev pub IsRoleOver : List (List ℕ) → RoleNode → Type 0
IsRoleOver names (role.Named property) = property < length names
IsRoleOver names (role.Part side number length) = ⊤

abbrev pub AreNodesOver : List (List ℕ) → List Node → Type 0
AreNodesOver names nodes = All (IsNodeOver names) nodes

abbrev pub AreRolesOver : List (List ℕ) → List RoleNode → Type 0
AreRolesOver names roles = All (IsRoleOver names) roles
