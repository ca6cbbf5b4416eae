-- The axioms of rows mean the same over nodes.
use Rattle.std.proofs.Common.{◌≡◌, ℕ, zero, suc, ◌+◌, ◌<◌, Bool, true, false, List, [], ◌∷◌, ◌++◌, map, All, Some, slice_get, refl, sym, ap, subst, ◌∙◌, arith, append_assoc}
use Rattle.std.specs.Prelude.{if◌then◌else◌}
use Rattle.std.specs.List.{list_any, range_with_len}
use Rattle.std.specs.Option.{option_map}
use Rattle.std.proofs.lemmas.List.{append-nil}
use Rattle.std.proofs.lemmas.List.Elements.{All-head, All-tail, All-nil, All-cons}
use Rattle.std.proofs.lemmas.Option.{slice_get-map, none-some}
use Rattle.el_logic.specs.declared.types.Interp.{Interp}
use Rattle.el_logic.specs.declared.types.Expr.{Expr}
use Rattle.el_logic.specs.declared.types.Expr.TheVariants as E
use Rattle.el_logic.specs.declared.types.Axiom.{Axiom}
use Rattle.el_logic.specs.declared.types.Axiom.TheVariants as A
use Rattle.el_logic.specs.Meaning.{IsInterp, IsMember, Holds}
use Rattle.concept_store.specs.declared.types.Node.{Node}
use Rattle.concept_store.specs.Trees.{Tree, thing, nothing, name, tree_of, same_tree, IsTreeOver, with_tree, with_trees}
use Rattle.concept_store.specs.Nodes.{IsNode, names_of, compounds_in, trees_of, node_in, nodes_over}
use Rattle.concept_store.specs.Reading.{Reading, IsIn, IsReadingOf, HoldsIn, MeansTheSameIn}
use Rattle.concept_store.specs.Roles.{IsOver}
use Rattle.case_file.specs.Cases.{name_node, row_over, IsName, IsRowAxiom}

-- added trees go after those that are there
grows_tree : (trees : List Tree) (tree : Tree) → (more : List Tree) × (with_tree trees tree ≡ trees ++ more)
grows_tree trees tree = by (list_any (same_tree tree) trees)
  where
    by : (b : Bool) → (more : List Tree) × ((if b then trees else trees ++ tree ∷ []) ≡ trees ++ more)
    by true = ([], sym (append-nil trees))
    by false = (tree ∷ [], refl)

-- and so do several
grows_trees : (added trees : List Tree) → (more : List Tree) × (with_trees trees added ≡ trees ++ more)
grows_trees [] trees = ([], sym (append-nil trees))
grows_trees (tree ∷ added) trees =
    let one = grows_tree trees tree in
    let rest = grows_trees added (with_tree trees tree) in
    (one.0 ++ rest.0, rest.1 ∙ ap (λ ts. ts ++ rest.0) one.1 ∙ append_assoc trees one.0 rest.0)

-- what a list has at a place stays there when more follow
front_kept : (xs ys : List Tree) (n : ℕ) (x : Tree) → slice_get xs n ≡ Some x → slice_get (xs ++ ys) n ≡ Some x
front_kept [] ys n x at = absurd (none-some x at)
front_kept (a ∷ xs) ys zero x at = at
front_kept (a ∷ xs) ys (suc n) x at = front_kept xs ys n x at

-- class names stand in the order of their numbers
name_at : (a n k : ℕ) → k < n → slice_get (map name (range_with_len a n)) k ≡ Some (name (a + k))
name_at a zero k within = absurd (omega arith)
name_at a (suc n) zero within = let e : a ≡ a + 0 = omega arith in ap (λ m. Some (name m)) e
name_at a (suc n) (suc k) within = let e : (a + 1) + k ≡ a + suc k = omega arith in name_at (a + 1) n k (omega arith) ∙ ap (λ m. Some (name m)) e

module _ (classes roles : ℕ) (left right : List Axiom) (i : Interp) (m : Reading) (is : IsInterp classes roles i) (reads : IsReadingOf (nodes_over (trees_of classes left right)) roles i m) where
  -- the trees of the store begin with the names
  front : (more : List Tree) × (trees_of classes left right ≡ names_of classes ++ more)
  front =
      let one = grows_trees (compounds_in left) (names_of classes) in
      let other = grows_trees (compounds_in right) (with_trees (names_of classes) (compounds_in left)) in
      (one.0 ++ other.0, other.1 ∙ ap (λ ts. ts ++ other.0) one.1 ∙ append_assoc (names_of classes) one.0 other.0)

  -- so the node of a name is at its place
  node_is : (n : ℕ) (tree : Tree) → slice_get (names_of classes) n ≡ Some tree → IsNode (nodes_over (trees_of classes left right)) n (node_in (trees_of classes left right) tree)
  node_is n tree at =
      let trees = trees_of classes left right in
      let there : slice_get trees n ≡ Some tree = ap (λ ts. slice_get ts n) front.1 ∙ front_kept (names_of classes) front.0 n tree at in
      slice_get-map (node_in trees) trees n ∙ ap (option_map (node_in trees)) there

  -- a class name is at its number and two more
  class_at : (k : ℕ) → k < classes → slice_get (names_of classes) (k + 2) ≡ Some (name k)
  class_at k within =
      let two : k + 2 ≡ suc (suc k) = omega arith in
      let none : 0 + k ≡ k = omega arith in
      ap (slice_get (names_of classes)) two ∙ name_at 0 classes k within ∙ ap (λ n. Some (name n)) none

  -- a name has the members of its node
  name_in : (e : Expr) → IsName e → IsTreeOver classes roles (tree_of e) → (x : ℕ) → IsIn m (name_node e) x → IsMember i x e
  name_in E.Top named over x h = subst (λ n. x < n) reads.size (reads.reading.inside 0 x h)
  name_in E.Bottom named over x h = reads.reading.bottom 1 x (node_is 1 nothing refl) h
  name_in (E.Name k) named over x h = (reads.classes (k + 2) k x (node_is (k + 2) (name k) (class_at k over))).0 h
  name_in (E.And' _ operands) named over x h = absurd named
  name_in (E.Exists' role _ fillers) named over x h = absurd named

  -- and the other way round
  name_out : (e : Expr) → IsName e → IsTreeOver classes roles (tree_of e) → (x : ℕ) → IsMember i x e → IsIn m (name_node e) x
  name_out E.Top named over x h = reads.reading.top 0 x (node_is 0 thing refl) (subst (λ n. x < n) (sym reads.size) h)
  name_out E.Bottom named over x h = absurd h
  name_out (E.Name k) named over x h = (reads.classes (k + 2) k x (node_is (k + 2) (name k) (class_at k over))).1 h
  name_out (E.And' _ operands) named over x h = absurd named
  name_out (E.Exists' role _ fillers) named over x h = absurd named

  -- an axiom of a row that holds holds over nodes
  row_in : (axiom' : Axiom) → IsRowAxiom axiom' → IsOver classes roles axiom' → Holds i axiom' → HoldsIn m (row_over axiom')
  row_in (A.SubClass low high) row over h =
      let P : Expr → Type 0 = λ e. IsTreeOver classes roles (tree_of e) in
      λ x k. name_out high row.1 (All-head P high [] (All-tail P low (high ∷ []) over.names)) x (h x (name_in low row.0 (All-head P low (high ∷ []) over.names) x k))
  row_in (A.SubRole [] role) row over h = absurd (omega arith)
  row_in (A.SubRole (r ∷ []) role) row over h =
      let P : ℕ → Type 0 = λ s. s < roles in
      let into = All-head P role (r ∷ []) over.properties in
      let from = All-head P r [] (All-tail P role (r ∷ []) over.properties) in
      λ x y (z, p, e). (reads.roles role x y into).1 (h x y (z, (reads.roles r x z from).0 p, e))
  row_in (A.SubRole (r ∷ s ∷ chain) role) row over h = absurd (omega arith)
  row_in _ row over h = absurd row

  -- and the other way round
  row_out : (axiom' : Axiom) → IsRowAxiom axiom' → IsOver classes roles axiom' → HoldsIn m (row_over axiom') → Holds i axiom'
  row_out (A.SubClass low high) row over h =
      let P : Expr → Type 0 = λ e. IsTreeOver classes roles (tree_of e) in
      λ x k. name_in high row.1 (All-head P high [] (All-tail P low (high ∷ []) over.names)) x (h x (name_out low row.0 (All-head P low (high ∷ []) over.names) x k))
  row_out (A.SubRole [] role) row over h = absurd (omega arith)
  row_out (A.SubRole (r ∷ []) role) row over h =
      let P : ℕ → Type 0 = λ s. s < roles in
      let into = All-head P role (r ∷ []) over.properties in
      let from = All-head P r [] (All-tail P role (r ∷ []) over.properties) in
      λ x y (z, p, e). (reads.roles role x y into).0 (h x y (z, (reads.roles r x z from).1 p, e))
  row_out (A.SubRole (r ∷ s ∷ chain) role) row over h = absurd (omega arith)
  row_out _ row over h = absurd row

  -- so do all axioms of a row
  rows_in : (axioms : List Axiom) → All IsRowAxiom axioms → All (IsOver classes roles) axioms → All (Holds i) axioms → All (HoldsIn m) (map row_over axioms)
  rows_in [] rows over h = All-nil (HoldsIn m)
  rows_in (axiom' ∷ axioms) rows over h =
      All-cons (HoldsIn m) (row_over axiom') (map row_over axioms)
      (row_in axiom' (All-head IsRowAxiom axiom' axioms rows) (All-head (IsOver classes roles) axiom' axioms over) (All-head (Holds i) axiom' axioms h))
      (rows_in axioms (All-tail IsRowAxiom axiom' axioms rows) (All-tail (IsOver classes roles) axiom' axioms over) (All-tail (Holds i) axiom' axioms h))

  -- and the other way round
  rows_out : (axioms : List Axiom) → All IsRowAxiom axioms → All (IsOver classes roles) axioms → All (HoldsIn m) (map row_over axioms) → All (Holds i) axioms
  rows_out [] rows over h = All-nil (Holds i)
  rows_out (axiom' ∷ axioms) rows over h =
      All-cons (Holds i) axiom' axioms
      (row_out axiom' (All-head IsRowAxiom axiom' axioms rows) (All-head (IsOver classes roles) axiom' axioms over) (All-head (HoldsIn m) (row_over axiom') (map row_over axioms) h))
      (rows_out axioms (All-tail IsRowAxiom axiom' axioms rows) (All-tail (IsOver classes roles) axiom' axioms over) (All-tail (HoldsIn m) (row_over axiom') (map row_over axioms) h))

-- the axioms of a row mean the same over the nodes of the store
pub row_means : (classes roles : ℕ) (left right : List Axiom) (nodes : List Node) (axioms : List Axiom) → nodes ≡ nodes_over (trees_of classes left right) → All IsRowAxiom axioms → All (IsOver classes roles) axioms →
    MeansTheSameIn classes roles nodes axioms (map row_over axioms)
row_means classes roles left right nodes axioms same rows over i m is reads =
    let r = subst (λ ns. IsReadingOf ns roles i m) same reads in
    (rows_in classes roles left right i m is r axioms rows over, rows_out classes roles left right i m is r axioms rows over)
