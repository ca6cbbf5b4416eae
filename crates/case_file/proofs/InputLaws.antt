-- The names of rows have nodes that 32 bits number, since the store has a node for each class.
use Rattle.std.proofs.Common.{◌≡◌, ℕ, ◌+◌, ◌^◌, ◌<◌, ◌≤◌, Bool, true, false, List, [], ◌∷◌, ◌++◌, length, All, ap, arith, length-append}
use Rattle.std.specs.Prelude.{if◌then◌else◌}
use Rattle.std.specs.List.{list_any}
use Rattle.std.proofs.lemmas.List.{length-map}
use Rattle.std.proofs.lemmas.List.FromFn.{length-map-range_with_len}
use Rattle.std.proofs.lemmas.List.Elements.{All-head, All-tail}
use Rattle.el_logic.specs.declared.types.Expr.{Expr}
use Rattle.el_logic.specs.declared.types.Expr.TheVariants as E
use Rattle.el_logic.specs.declared.types.Axiom.{Axiom}
use Rattle.el_logic.specs.declared.types.Axiom.TheVariants as A
use Rattle.concept_store.specs.declared.types.Node.{Node}
use Rattle.concept_store.specs.Trees.{Tree, name, tree_of, same_tree, IsTreeOver, with_tree, with_trees}
use Rattle.concept_store.specs.Nodes.{names_of, compounds_in, trees_of, node_in, nodes_over}
use Rattle.concept_store.specs.Roles.{IsOver, AreOver}
use Rattle.case_file.specs.Cases.{name_node}
use Rattle.case_file.specs.Inside.ShortRows.{IsShortRow}

-- adding trees makes a list no shorter
longer_tree : (trees : List Tree) (tree : Tree) → length trees ≤ length (with_tree trees tree)
longer_tree trees tree = by (list_any (same_tree tree) trees)
  where
    by : (b : Bool) → length trees ≤ length (if b then trees else trees ++ tree ∷ [])
    by true = omega arith
    by false = omega (arith, length-append trees (tree ∷ []))

-- nor do more of them
longer_trees : (more trees : List Tree) → length trees ≤ length (with_trees trees more)
longer_trees [] trees = omega arith
longer_trees (tree ∷ more) trees = omega (arith, longer_tree trees tree, longer_trees more (with_tree trees tree))

-- so there is a node for each class
pub classes_fit : (classes : ℕ) (left right : List Axiom) (nodes : List Node) (most : ℕ) → nodes ≡ nodes_over (trees_of classes left right) → length nodes ≤ most → most < 2 ^ 32 → classes + 2 < 2 ^ 32
classes_fit classes left right nodes most same few fits =
    let first = with_trees (names_of classes) (compounds_in left) in
    let trees = trees_of classes left right in
    omega (arith, ap length same, length-map trees (node_in trees), longer_trees (compounds_in left) (names_of classes), longer_trees (compounds_in right) first, length-map-range_with_len name 0 classes)

-- a name of a row has a short node
short_name : (classes roles : ℕ) → classes + 2 < 2 ^ 32 → (expr : Expr) → IsTreeOver classes roles (tree_of expr) → name_node expr < 2 ^ 32
short_name classes roles fits E.Top names = omega arith
short_name classes roles fits E.Bottom names = omega arith
short_name classes roles fits (E.Name class) names = omega arith
short_name classes roles fits (E.And' _ operands) names = omega arith
short_name classes roles fits (E.Exists' role _ fillers) names = omega arith

-- so do the names of an axiom
short_row : (classes roles : ℕ) → classes + 2 < 2 ^ 32 → (axiom' : Axiom) → IsOver classes roles axiom' → IsShortRow axiom'
short_row classes roles fits (A.SubClass low high) is =
    let P : Expr → Type 0 = λ e. IsTreeOver classes roles (tree_of e) in (
      short_name classes roles fits low (All-head P low (high ∷ []) is.names),
      short_name classes roles fits high (All-head P high [] (All-tail P low (high ∷ []) is.names)),
    )
short_row classes roles fits _ is = tt

-- and those of all rows
pub rows_short : (classes roles : ℕ) (rows : List (List Axiom)) → classes + 2 < 2 ^ 32 → All (AreOver classes roles) rows → All (All IsShortRow) rows
rows_short classes roles rows fits are k row within j default below = short_row classes roles fits _ ((are k row within).each j default below)
