-- The trees of axioms over names are over these names.
use Rattle.std.proofs.Common.{◌≡◌, ℕ, zero, suc, ◌+◌, ◌<◌, ◌≤◌, Bool, true, false, List, [], ◌∷◌, ◌++◌, map, All, Some, slice_get, rules, arith, subst}
use Rattle.std.specs.Prelude.{if◌then◌else◌}
use Rattle.std.specs.List.{list_any, range_with_len}
use Rattle.std.proofs.lemmas.List.Elements.{All-head, All-tail, All-nil, All-cons, All-append, All-contains}
use Rattle.std.proofs.lemmas.Option.{slice_get_within, get_or_from_slice_get}
use Rattle.el_logic.specs.declared.types.Expr.{Expr}
use Rattle.el_logic.specs.declared.types.Axiom.{Axiom}
use Rattle.concept_store.specs.declared.types.Node.TheVariants.{Class, Exists}
use Rattle.concept_store.specs.Trees.{Tree, thing, nothing, name, both, some, tree_of, compounds, IsTreeOver, same_tree, with_tree, with_trees}
use Rattle.concept_store.specs.Nodes.{IsNode, expressions, compounds_of, compounds_in, names_of, trees_of, node_in, nodes_over}
use Rattle.concept_store.specs.Roles.{IsOver, AreOver}
use Rattle.concept_store.proofs.ReadingLaws.{mapped_at}

-- the compound parts of a tree are over the names of the tree
compounds_over : (classes roles : ℕ) (tree : Tree) → IsTreeOver classes roles tree → All (IsTreeOver classes roles) (compounds tree)
compounds_over classes roles thing over = All-nil (IsTreeOver classes roles)
compounds_over classes roles nothing over = All-nil (IsTreeOver classes roles)
compounds_over classes roles (name class) over = All-nil (IsTreeOver classes roles)
compounds_over classes roles (both one other) over =
    All-append (IsTreeOver classes roles) (compounds one ++ compounds other) (both one other ∷ [])
    (All-append (IsTreeOver classes roles) (compounds one) (compounds other) (compounds_over classes roles one over.0) (compounds_over classes roles other over.1))
    (All-cons (IsTreeOver classes roles) (both one other) [] over (All-nil (IsTreeOver classes roles)))
compounds_over classes roles (some role filler) over =
    All-append (IsTreeOver classes roles) (compounds filler) (some role filler ∷ []) (compounds_over classes roles filler over.1)
    (All-cons (IsTreeOver classes roles) (some role filler) [] over (All-nil (IsTreeOver classes roles)))

-- those of expressions
each_over : (classes roles : ℕ) (exprs : List Expr) → All (λ expr. IsTreeOver classes roles (tree_of expr)) exprs → All (IsTreeOver classes roles) (compounds_of exprs)
each_over classes roles [] over = All-nil (IsTreeOver classes roles)
each_over classes roles (expr ∷ exprs) over =
    All-append (IsTreeOver classes roles) (compounds (tree_of expr)) (compounds_of exprs)
    (compounds_over classes roles (tree_of expr) (All-head (λ e. IsTreeOver classes roles (tree_of e)) expr exprs over))
    (each_over classes roles exprs (All-tail (λ e. IsTreeOver classes roles (tree_of e)) expr exprs over))

-- and those of axioms
axioms_over : (classes roles : ℕ) (axioms : List Axiom) → All (IsOver classes roles) axioms → All (IsTreeOver classes roles) (compounds_in axioms)
axioms_over classes roles [] over = All-nil (IsTreeOver classes roles)
axioms_over classes roles (axiom' ∷ axioms) over =
    All-append (IsTreeOver classes roles) (compounds_of (expressions axiom')) (compounds_in axioms)
    (each_over classes roles (expressions axiom') (All-head (IsOver classes roles) axiom' axioms over).names)
    (axioms_over classes roles axioms (All-tail (IsOver classes roles) axiom' axioms over))

-- class names are over themselves
class_names_over : (classes roles first count : ℕ) → first + count ≤ classes → All (IsTreeOver classes roles) (map name (range_with_len first count))
class_names_over classes roles first zero within = All-nil (IsTreeOver classes roles)
class_names_over classes roles first (suc count) within =
    let below : first < classes = omega (arith, within) in
    All-cons (IsTreeOver classes roles) (name first) (map name (range_with_len (first + 1) count)) below (class_names_over classes roles (first + 1) count (omega (arith, within)))

-- and so are all names
names_over : (classes roles : ℕ) → All (IsTreeOver classes roles) (names_of classes)
names_over classes roles =
    All-cons (IsTreeOver classes roles) thing (nothing ∷ map name (range_with_len 0 classes)) tt
    (All-cons (IsTreeOver classes roles) nothing (map name (range_with_len 0 classes)) tt (class_names_over classes roles 0 classes (omega arith)))

-- one tree more
one_more : (classes roles : ℕ) (trees : List Tree) (tree : Tree) → All (IsTreeOver classes roles) trees → IsTreeOver classes roles tree → All (IsTreeOver classes roles) (with_tree trees tree)
one_more classes roles trees tree all over = by_test (list_any (same_tree tree) trees)
  where
    by_test : (b : Bool) → All (IsTreeOver classes roles) (if b then trees else trees ++ tree ∷ [])
    by_test true = all
    by_test false = All-append (IsTreeOver classes roles) trees (tree ∷ []) all (All-cons (IsTreeOver classes roles) tree [] over (All-nil (IsTreeOver classes roles)))

-- several trees more
more_trees : (classes roles : ℕ) (more trees : List Tree) → All (IsTreeOver classes roles) trees → All (IsTreeOver classes roles) more → All (IsTreeOver classes roles) (with_trees trees more)
more_trees classes roles [] trees all over = all
more_trees classes roles (tree ∷ more) trees all over =
    more_trees classes roles more (with_tree trees tree) (one_more classes roles trees tree all (All-head (IsTreeOver classes roles) tree more over)) (All-tail (IsTreeOver classes roles) tree more over)

-- the trees of a store are over its names
trees_over : (classes roles : ℕ) (left right : List Axiom) → AreOver classes roles left → AreOver classes roles right → All (IsTreeOver classes roles) (trees_of classes left right)
trees_over classes roles left right over_left over_right =
    more_trees classes roles (compounds_in right) (with_trees (names_of classes) (compounds_in left))
    (more_trees classes roles (compounds_in left) (names_of classes) (names_over classes roles) (axioms_over classes roles left over_left.each))
    (axioms_over classes roles right over_right.each)

-- so the role of a restriction is a property
role_of : (classes roles : ℕ) (trees : List Tree) (tree : Tree) (r c : ℕ) → IsTreeOver classes roles tree → node_in trees tree ≡ Exists r c → r < roles
role_of classes roles trees (some role filler) r c over same = subst (λ n. n < roles) (search (rules, same)) over.0
role_of classes roles trees thing r c over same = absurd (search (rules, same))
role_of classes roles trees nothing r c over same = absurd (search (rules, same))
role_of classes roles trees (name class) r c over same = absurd (search (rules, same))
role_of classes roles trees (both one other) r c over same = absurd (search (rules, same))

-- and a class is a class name
class_of : (classes roles : ℕ) (trees : List Tree) (tree : Tree) (k : ℕ) → IsTreeOver classes roles tree → node_in trees tree ≡ Class k → k < classes
class_of classes roles trees (name class) k over same = subst (λ n. n < classes) (search (rules, same)) over
class_of classes roles trees thing k over same = absurd (search (rules, same))
class_of classes roles trees nothing k over same = absurd (search (rules, same))
class_of classes roles trees (both one other) k over same = absurd (search (rules, same))
class_of classes roles trees (some role filler) k over same = absurd (search (rules, same))

module _ (classes roles : ℕ) (left right : List Axiom) (over_left : AreOver classes roles left) (over_right : AreOver classes roles right) where
  -- the tree at a place is over the names
  over_at : (n : ℕ) (tree : Tree) → slice_get (trees_of classes left right) n ≡ Some tree → IsTreeOver classes roles tree
  over_at n tree at =
      let trees = trees_of classes left right in
      All-contains (IsTreeOver classes roles) trees tree (trees_over classes roles left right over_left over_right)
      (n, slice_get_within trees n tree at, get_or_from_slice_get trees n tree tree at)

  -- the role of a node is a property
  pub restricts_properties : (n r c : ℕ) → IsNode (nodes_over (trees_of classes left right)) n (Exists r c) → r < roles
  restricts_properties n r c at =
      let trees = trees_of classes left right in
      let found = mapped_at (node_in trees) trees n (Exists r c) at in
      role_of classes roles trees found.0 r c (over_at n found.0 found.1) found.2

  -- and the class of a node a class name
  pub names_below : (n k : ℕ) → IsNode (nodes_over (trees_of classes left right)) n (Class k) → k < classes
  names_below n k at =
      let trees = trees_of classes left right in
      let found = mapped_at (node_in trees) trees n (Class k) at in
      class_of classes roles trees found.0 k (over_at n found.0 found.1) found.2
