-- Looking up the node of an expression along the operands of an intersection.
use Rattle.std.proofs.Common.{◌≡◌, ℕ, ◌+◌, ◌<◌, ◌≤◌, List, [], ◌∷◌, length, take, drop, get_or, fold, Option, Some, None, position, refl, sym, ap, ◌∙◌}
use Rattle.std.specs.Option.{option_and_then}
use Rattle.std.proofs.lemmas.List.{take-append-drop, take_all}
use Rattle.std.proofs.lemmas.List.Sums.{fold_more, fold-append}
use Rattle.el_logic.specs.declared.types.Expr.{Expr}
use Rattle.el_logic.specs.declared.types.Expr.TheVariants as E
use Rattle.concept_store.specs.declared.types.Node.{Node}
use Rattle.concept_store.specs.declared.types.Node.TheVariants.{Top, And, Exists}
use Rattle.concept_store.specs.Trees.{Tree, both, tree_of}
use Rattle.concept_store.specs.Nodes.{same_node, node_for}
use Rattle.concept_store.specs.Inside.Numbering.{folded_list, node_both}
use Rattle.concept_store.proofs.NumberLaws.{whole_none, whole_some, whole_exists}

-- the node of a folded tree is found operand by operand
nodes_fold : (nodes : List Node) (operands : List Expr) (tree : Tree) → fold (node_both nodes) (node_for nodes tree) operands ≡ node_for nodes (folded_list tree operands)
nodes_fold nodes [] tree = refl
nodes_fold nodes (operand ∷ operands) tree = nodes_fold nodes operands (both tree (tree_of operand))

-- with no node there is none for more operands
none_fold : (nodes : List Node) (operands : List Expr) → fold (node_both nodes) None operands ≡ None
none_fold nodes [] = refl
none_fold nodes (operand ∷ operands) = none_fold nodes operands

module _ (nodes : List Node) (expr first : Expr) (operands rest : List Expr) (same : expr ≡ E.And operands) (parts : operands ≡ first ∷ rest) where
  -- an intersection is looked up from its first operand along the rest
  node_whole : node_for nodes (tree_of expr) ≡ fold (node_both nodes) (node_for nodes (tree_of first)) rest
  node_whole = ap (node_for nodes) (whole_some expr first operands rest same parts) ∙ sym (nodes_fold nodes rest (tree_of first))

  -- no node for the first operand
  pub none_first : None ≡ node_for nodes (tree_of first) → None ≡ node_for nodes (tree_of expr)
  none_first none = sym (node_whole ∙ ap (λ w. fold (node_both nodes) w rest) (sym none) ∙ none_fold nodes rest)

  module _ (start whole : ℕ) (i : ℕ) (begun : Some start ≡ node_for nodes (tree_of first)) (done : Some whole ≡ fold (node_both nodes) (Some start) (take i rest)) where
    -- no node for a later operand, or for the intersection with it
    pub none_later : (operand : Expr) → i < length rest → operand ≡ get_or rest i operand → None ≡ node_both nodes (Some whole) operand → None ≡ node_for nodes (tree_of expr)
    none_later operand within at none =
        let here = none ∙ ap (λ w. node_both nodes w operand) done ∙ ap (node_both nodes (fold (node_both nodes) (Some start) (take i rest))) at ∙ sym (fold_more (node_both nodes) (Some start) rest i operand within) in
        let split = ap (fold (node_both nodes) (Some start)) (sym (take-append-drop (i + 1) rest)) ∙ fold-append (node_both nodes) (Some start) (take (i + 1) rest) (drop (i + 1) rest) in
        sym (node_whole ∙ ap (λ w. fold (node_both nodes) w rest) (sym begun) ∙ split ∙ ap (λ w. fold (node_both nodes) w (drop (i + 1) rest)) (sym here) ∙ none_fold nodes (drop (i + 1) rest))

    -- the node that the walk ends with
    pub found_all : length rest ≤ i → Some whole ≡ node_for nodes (tree_of expr)
    found_all past = sym (node_whole ∙ ap (λ w. fold (node_both nodes) w rest) (sym begun) ∙ ap (fold (node_both nodes) (Some start)) (sym (take_all i rest past)) ∙ sym done)

-- the operand at a place is looked up next
pub found_next : (nodes : List Node) (rest : List Expr) (start whole new i : ℕ) (operand : Expr) → i < length rest → operand ≡ get_or rest i operand →
    Some whole ≡ fold (node_both nodes) (Some start) (take i rest) → Some new ≡ node_both nodes (Some whole) operand → Some new ≡ fold (node_both nodes) (Some start) (take (i + 1) rest)
found_next nodes rest start whole new i operand within at done found =
    found ∙ ap (λ w. node_both nodes w operand) done ∙ ap (node_both nodes (fold (node_both nodes) (Some start) (take i rest))) at ∙ sym (fold_more (node_both nodes) (Some start) rest i operand within)

-- the intersection with an operand that has a node
pub both_with : (nodes : List Node) (whole other : ℕ) (operand : Expr) → Some other ≡ node_for nodes (tree_of operand) → position (same_node (And whole other)) nodes ≡ node_both nodes (Some whole) operand
both_with nodes whole other operand found = ap (option_and_then (λ b. position (same_node (And whole b)) nodes)) found

-- and with one that has none
pub both_without : (nodes : List Node) (whole : ℕ) (operand : Expr) → None ≡ node_for nodes (tree_of operand) → None ≡ node_both nodes (Some whole) operand
both_without nodes whole operand none = ap (option_and_then (λ b. position (same_node (And whole b)) nodes)) none

-- an intersection of none
pub found_none : (nodes : List Node) (expr : Expr) (operands : List Expr) → expr ≡ E.And operands → length operands ≡ 0 → position (same_node Top) nodes ≡ node_for nodes (tree_of expr)
found_none nodes expr operands same none = ap (node_for nodes) (sym (whole_none expr operands same none))

-- a restriction
pub found_exists : (nodes : List Node) (expr filler : Expr) (role : ℕ) (inner : Option ℕ) → expr ≡ E.Exists role filler → inner ≡ node_for nodes (tree_of filler) →
    option_and_then (λ n. position (same_node (Exists role n)) nodes) inner ≡ node_for nodes (tree_of expr)
found_exists nodes expr filler role inner same found =
    ap (option_and_then (λ n. position (same_node (Exists role n)) nodes)) found ∙ ap (node_for nodes) (sym (whole_exists expr filler role same))
