-- The nodes of two ontologies, in their order.
use Rattle.std.specs.Prelude.{◌≡◌, ℕ, ◌+◌, ◌-◌, Bool, true, false, ◌&&◌, ◌==◌, List, [], ◌∷◌, ◌++◌, map, length, Option, Some, slice_get, position}
use Rattle.std.specs.List.{range_with_len}
use Rattle.std.specs.Option.{option_and_then}
use Rattle.el_logic.specs.declared.types.Expr.{Expr}
use Rattle.el_logic.specs.declared.types.Axiom.{Axiom}
use Rattle.el_logic.specs.declared.types.Axiom.TheVariants as A
use Rattle.concept_store.specs.declared.types.Node.{Node}
use Rattle.concept_store.specs.declared.types.Node.TheVariants.{Top, Bottom, Class, And, Exists}
use Rattle.concept_store.specs.declared.types.NodeAxiom.{NodeAxiom}
use Rattle.concept_store.specs.declared.types.NodeAxiom.TheVariants.{SubClass, Equivalent, Disjoint, SubRole, EquivalentRoles, Transitive, Reflexive, Domain}
use Rattle.concept_store.specs.Trees.{Tree, thing, nothing, name, both, some, tree_of, compounds, place_of, with_trees}

-- node n is this one
abbrev pub IsNode : List Node → ℕ → Node → Type 0
IsNode nodes n node = slice_get nodes n ≡ Some node

abbrev pub same_node : Node → Node → Bool
same_node Top Top = true
same_node Bottom Bottom = true
same_node (Class a) (Class b) = a == b
same_node (And a b) (And c d) = (a == c) && (b == d)
same_node (Exists a b) (Exists c d) = (a == c) && (b == d)
same_node _ _ = false

-- the class expressions of an axiom
abbrev pub expressions : Axiom → List Expr
expressions (A.SubClass low high) = low ∷ high ∷ []
expressions (A.Equivalent exprs) = exprs
expressions (A.Disjoint exprs) = exprs
expressions (A.Domain role expr) = expr ∷ []
expressions _ = []

-- the compound parts of expressions and of axioms, each after its own parts
abbrev pub compounds_of : List Expr → List Tree
compounds_of [] = []
compounds_of (expr ∷ exprs) = compounds (tree_of expr) ++ compounds_of exprs

abbrev pub compounds_in : List Axiom → List Tree
compounds_in [] = []
compounds_in (axiom' ∷ axioms) = compounds_of (expressions axiom') ++ compounds_in axioms

-- owl:Thing, owl:Nothing and this number of class names
abbrev pub names_of : ℕ → List Tree
names_of classes = thing ∷ nothing ∷ map name (range_with_len 0 classes)

-- what the nodes stand for: these, and the compound parts of LEFT and then of RIGHT, each once
abbrev pub trees_of : ℕ → List Axiom → List Axiom → List Tree
trees_of classes left right = with_trees (with_trees (names_of classes) (compounds_in left)) (compounds_in right)

-- a tree by the numbers of its parts
abbrev pub node_in : List Tree → Tree → Node
node_in trees thing = Top
node_in trees nothing = Bottom
node_in trees (name class) = Class class
node_in trees (both one other) = And (place_of one trees) (place_of other trees)
node_in trees (some role filler) = Exists role (place_of filler trees)

abbrev pub nodes_over : List Tree → List Node
nodes_over trees = map (node_in trees) trees

-- the number of an expression
abbrev pub number_in : List Tree → Expr → ℕ
number_in trees expr = place_of (tree_of expr) trees

-- an axiom over nodes; its parts of chains, if it has any, have numbers from `first` on
abbrev pub over : List Tree → ℕ → Axiom → NodeAxiom
over trees first (A.SubClass low high) = SubClass (number_in trees low) (number_in trees high)
over trees first (A.Equivalent exprs) = Equivalent (map (number_in trees) exprs)
over trees first (A.Disjoint exprs) = Disjoint (map (number_in trees) exprs)
over trees first (A.SubRole chain role) = SubRole chain role first
over trees first (A.EquivalentRoles roles) = EquivalentRoles roles
over trees first (A.Transitive role) = Transitive role
over trees first (A.Reflexive role) = Reflexive role
over trees first (A.Domain role expr) = Domain role (number_in trees expr)

-- how many parts of length 2 and more a chain has, without the whole chain
abbrev pub part_count : Axiom → ℕ
part_count (A.SubRole chain role) = length chain - 2
part_count _ = 0

abbrev pub parts_within : List Axiom → ℕ
parts_within [] = 0
parts_within (axiom' ∷ axioms) = part_count axiom' + parts_within axioms

-- axioms over nodes; the parts of their chains have numbers from `first` on, one after the other
abbrev pub all_over : List Tree → ℕ → List Axiom → List NodeAxiom
all_over trees first [] = []
all_over trees first (axiom' ∷ axioms) = over trees first axiom' ∷ all_over trees (first + part_count axiom') axioms

-- the number of the node that stands for a tree, if one does: the one that has the numbers of the
-- nodes that stand for its parts
abbrev pub node_for : List Node → Tree → Option ℕ
node_for nodes thing = position (same_node Top) nodes
node_for nodes nothing = position (same_node Bottom) nodes
node_for nodes (name class) = position (same_node (Class class)) nodes
node_for nodes (both one other) =
    option_and_then
    (λ a. option_and_then (λ b. position (same_node (And a b)) nodes) (node_for nodes other))
    (node_for nodes one)
node_for nodes (some role filler) =
    option_and_then (λ inner. position (same_node (Exists role inner)) nodes) (node_for nodes filler)
