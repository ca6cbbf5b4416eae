-- How the code numbers expressions one after the other.
use Rattle.std.specs.Prelude.{ℕ, ◌+◌, ◌-◌, ◌^◌, ◌<◌, min, if◌then◌else◌, List, [], ◌∷◌, ◌++◌, fold, Option, position, ⊤}
use Rattle.std.specs.List.{list_any, position_or_len}
use Rattle.std.specs.Option.{option_and_then}
use Rattle.el_logic.specs.declared.types.Expr.{Expr}
use Rattle.el_logic.specs.declared.types.Axiom.{Axiom}
use Rattle.el_logic.specs.declared.types.Axiom.TheVariants as A
use Rattle.concept_store.specs.declared.types.Node.{Node}
use Rattle.concept_store.specs.declared.types.Node.TheVariants.{And, Exists}
use Rattle.concept_store.specs.declared.types.NodeAxiom.{NodeAxiom}
use Rattle.concept_store.specs.declared.types.NodeAxiom.TheVariants.{SubClass, Equivalent, Disjoint, SubRole, EquivalentRoles, Transitive, Reflexive, Domain}
use Rattle.concept_store.specs.Trees.{Tree, thing, nothing, name, both, some, tree_of}
use Rattle.concept_store.specs.Nodes.{same_node, expressions, part_count, node_for}

-- the nodes, and one more unless it is among them
abbrev pub with_node : List Node → Node → List Node
with_node nodes node = if list_any (same_node node) nodes then nodes else nodes ++ node ∷ []

-- the number of a node, and the nodes with it
abbrev pub added : Node → List Node → ℕ × List Node
added node nodes = (position_or_len (same_node node) nodes, with_node nodes node)

-- the number of a tree, and the nodes with it and its parts
abbrev pub numbered : Tree → List Node → ℕ × List Node
numbered thing nodes = (0, nodes)
numbered nothing nodes = (1, nodes)
numbered (name class) nodes = (class + 2, nodes)
numbered (both one other) nodes =
    added (And (numbered one nodes).0 (numbered other (numbered one nodes).1).0) (numbered other (numbered one nodes).1).1
numbered (some role filler) nodes = added (Exists role (numbered filler nodes).0) (numbered filler nodes).1

-- the number of the intersection of a numbered node with an expression
abbrev pub numbered_both : ℕ × List Node → Expr → ℕ × List Node
numbered_both whole operand =
    added (And whole.0 (numbered (tree_of operand) whole.1).0) (numbered (tree_of operand) whole.1).1

-- the tree of the intersection of a tree with each of these expressions
abbrev pub folded_list : Tree → List Expr → Tree
folded_list tree operands = fold (λ whole operand. both whole (tree_of operand)) tree operands

-- a class name in a tree has a node whose number fits in 32 bits
abbrev pub AreNamesShort : Tree → Type 0
AreNamesShort (name class) = class + 2 < 2 ^ 32
AreNamesShort (both one other) = AreNamesShort one × AreNamesShort other
AreNamesShort (some role filler) = AreNamesShort filler
AreNamesShort _ = ⊤

abbrev pub numbered_each : List Expr → List Node → List ℕ × List Node
numbered_each [] nodes = ([], nodes)
numbered_each (expr ∷ exprs) nodes =
    let first = numbered (tree_of expr) nodes in
    let rest = numbered_each exprs first.1 in
    (first.0 ∷ rest.0, rest.1)

-- a number that stops at the greatest of 32 bits
abbrev pub in_32_bits : ℕ → ℕ
in_32_bits n = min n (2 ^ 32 - 1)

-- the axiom over nodes, and the nodes with its expressions
abbrev pub numbered_axiom : ℕ → Axiom → List Node → NodeAxiom × List Node
numbered_axiom first (A.SubClass low high) nodes =
    let one = numbered (tree_of low) nodes in
    let other = numbered (tree_of high) one.1 in
    (SubClass one.0 other.0, other.1)
numbered_axiom first (A.Equivalent exprs) nodes = let each = numbered_each exprs nodes in (Equivalent each.0, each.1)
numbered_axiom first (A.Disjoint exprs) nodes = let each = numbered_each exprs nodes in (Disjoint each.0, each.1)
numbered_axiom first (A.SubRole chain role) nodes = (SubRole chain role first, nodes)
numbered_axiom first (A.EquivalentRoles roles) nodes = (EquivalentRoles roles, nodes)
numbered_axiom first (A.Transitive role) nodes = (Transitive role, nodes)
numbered_axiom first (A.Reflexive role) nodes = (Reflexive role, nodes)
numbered_axiom first (A.Domain role expr) nodes = let one = numbered (tree_of expr) nodes in (Domain role one.0, one.1)

abbrev pub numbered_axioms : ℕ → List Axiom → List Node → List NodeAxiom × List Node
numbered_axioms first [] nodes = ([], nodes)
numbered_axioms first (axiom' ∷ axioms) nodes =
    let one = numbered_axiom first axiom' nodes in
    let others = numbered_axioms (in_32_bits (first + part_count axiom')) axioms one.1 in
    (one.0 ∷ others.0, others.1)

-- the names in the expressions have nodes whose numbers fit in 32 bits
abbrev pub AreAllShort : List Expr → Type 0
AreAllShort [] = ⊤
AreAllShort (expr ∷ exprs) = AreNamesShort (tree_of expr) × AreAllShort exprs

abbrev pub AreAxiomsShort : List Axiom → Type 0
AreAxiomsShort [] = ⊤
AreAxiomsShort (axiom' ∷ axioms) = AreAllShort (expressions axiom') × AreAxiomsShort axioms

-- the node of the intersection of what a node stands for with an expression, if there are both
abbrev pub node_both : List Node → Option ℕ → Expr → Option ℕ
node_both nodes whole operand =
    option_and_then
    (λ a. option_and_then (λ b. position (same_node (And a b)) nodes) (node_for nodes (tree_of operand)))
    whole
