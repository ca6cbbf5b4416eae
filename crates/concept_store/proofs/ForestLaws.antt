-- Lists of trees that have the parts of each tree, and their nodes.
use Rattle.std.proofs.Common.{◌≡◌, ℕ, zero, suc, ◌+◌, ◌<◌, ◌≤◌, Bool, true, false, not, cond, ◌&&◌, ◌||◌, List, [], ◌∷◌, ◌++◌, length, map, Some, slice_get, refl, sym, ap, subst, ◌∙◌, ◌⊎◌, inl, inr, ⊎_elim, arith, length-append, append_assoc}
use Rattle.std.specs.Prelude.{◌==◌, if◌then◌else◌, ⊤}
use Rattle.std.specs.List.{list_any, position_or_len}
use Rattle.std.specs.Cmp.{both_ways}
use Rattle.std.proofs.lemmas.Bool.{eqb-true, eq-eqb}
use Rattle.std.proofs.lemmas.List.{append-nil}
use Rattle.std.proofs.lemmas.Option.{slice_get_within, same_Some, none-some}
use Rattle.concept_store.specs.declared.types.Node.{Node}
use Rattle.concept_store.specs.declared.types.Node.TheVariants.{And, Exists}
use Rattle.concept_store.specs.Trees.{Tree, thing, nothing, name, both, some, same_tree, place_of, with_tree}
use Rattle.concept_store.specs.Nodes.{same_node, names_of, node_in, nodes_over}
use Rattle.concept_store.specs.Inside.Numbering.{added}
use Rattle.concept_store.proofs.TreeLaws.{same_tree_equal, same_tree_itself, at_place, place_first, place_kept, found_place, lost_place, added_place, only_added}

-- the tree is among the trees
abbrev pub Has : List Tree → Tree → Type 0
Has trees tree = place_of tree trees < length trees

-- its parts are among the first of the trees
abbrev pub HasPartsBefore : List Tree → ℕ → Tree → Type 0
HasPartsBefore trees n (both one other) = (place_of one trees < n) × (place_of other trees < n)
HasPartsBefore trees n (some role filler) = place_of filler trees < n
HasPartsBefore trees n _ = ⊤

-- its parts are among the trees
abbrev pub HasParts : List Tree → Tree → Type 0
HasParts trees tree = HasPartsBefore trees (length trees) tree

-- the trees begin with the names, have the parts of each before it, and have each once
pub record IsForest (classes : ℕ) (trees : List Tree) : Type 0 where
  pub more : List Tree
  pub begins : trees ≡ names_of classes ++ more
  pub parts : (tree : Tree) → Has trees tree → HasParts trees tree
  pub before : (n : ℕ) (tree : Tree) → slice_get trees n ≡ Some tree → HasPartsBefore trees n tree
  pub once : (n : ℕ) (tree : Tree) → slice_get trees n ≡ Some tree → place_of tree trees ≡ n

-- a tree at a place is there
pub has_at : (trees : List Tree) (n : ℕ) (tree : Tree) → slice_get trees n ≡ Some tree → Has trees tree
has_at trees n tree at = omega (arith, place_first tree trees n at, slice_get_within trees n tree at)

-- and stays when trees are added
pub has_kept : (trees more : List Tree) (tree : Tree) → Has trees tree → Has (trees ++ more) tree
has_kept trees more tree has = omega (arith, place_kept tree trees more has, length-append trees more)

-- so do the parts of a tree
parts_kept : (trees more : List Tree) (tree : Tree) → HasParts trees tree → HasParts (trees ++ more) tree
parts_kept trees more (both one other) has = (has_kept trees more one has.0, has_kept trees more other has.1)
parts_kept trees more (some role filler) has = has_kept trees more filler has
parts_kept trees more thing has = tt
parts_kept trees more nothing has = tt
parts_kept trees more (name class) has = tt

-- and stay before a place
before_kept : (trees more : List Tree) (n : ℕ) (tree : Tree) → n ≤ length trees → HasPartsBefore trees n tree → HasPartsBefore (trees ++ more) n tree
before_kept trees more n (both one other) within before =
    (omega (arith, within, before.0, place_kept one trees more (omega (arith, within, before.0))), omega (arith, within, before.1, place_kept other trees more (omega (arith, within, before.1))))
before_kept trees more n (some role filler) within before = omega (arith, within, before, place_kept filler trees more (omega (arith, within, before)))
before_kept trees more n thing within before = tt
before_kept trees more n nothing within before = tt
before_kept trees more n (name class) within before = tt

-- what a list has at a place when one more follows: what it had, or the one
at_or_last : (trees : List Tree) (tree : Tree) (n : ℕ) (other : Tree) → slice_get (trees ++ tree ∷ []) n ≡ Some other → (slice_get trees n ≡ Some other) ⊎ ((n ≡ length trees) × (tree ≡ other))
at_or_last [] tree zero other at = inr (refl, same_Some tree other at)
at_or_last [] tree (suc n) other at = absurd (none-some other at)
at_or_last (first ∷ trees) tree zero other at = inl at
at_or_last (first ∷ trees) tree (suc n) other at = ⊎_elim (λ there. inl there) (λ last. inr (ap suc last.0, last.1)) (at_or_last trees tree n other at)

-- two trees that are there have one place exactly where they are the same
same_place : (trees : List Tree) (one other : Tree) → Has trees one → Has trees other → (place_of one trees == place_of other trees) ≡ same_tree one other
same_place trees one other has_one has_other = both_ways (place_of one trees == place_of other trees) (same_tree one other)
    (λ equal. let here = ap (slice_get trees) (eqb-true (place_of one trees) (place_of other trees) equal) in
    let same = same_Some one other (sym (at_place one trees has_one) ∙ here ∙ at_place other trees has_other) in
    ap (same_tree one) (sym same) ∙ same_tree_itself one)
    (λ equal. eq-eqb (place_of one trees) (place_of other trees) (ap (λ t. place_of t trees) (same_tree_equal one other equal)))

-- two trees whose parts are there have one node exactly where they are the same
pub same_shape : (trees : List Tree) (one other : Tree) → HasParts trees one → HasParts trees other → same_node (node_in trees one) (node_in trees other) ≡ same_tree one other
same_shape trees (both a b) (both c d) has_one has_other =
    let left = same_place trees a c has_one.0 has_other.0 in
    let right = same_place trees b d has_one.1 has_other.1 in
    λ i. left i && right i
same_shape trees (some r a) (some s b) has_one has_other = ap (λ t. (r == s) && t) (same_place trees a b has_one has_other)
same_shape trees (name a) (name b) has_one has_other = refl
same_shape trees thing thing has_one has_other = refl
same_shape trees nothing nothing has_one has_other = refl
same_shape trees _ _ has_one has_other = refl

-- the test of a node along the nodes, and that of its tree along the trees
module _ (p : Node → Bool) (q : Tree → Bool) (f : Tree → Node) where
  -- the first place that passes is the same
  pub position_along : (trees : List Tree) → ((n : ℕ) (tree : Tree) → slice_get trees n ≡ Some tree → p (f tree) ≡ q tree) → position_or_len p (map f trees) ≡ position_or_len q trees
  position_along [] same = refl
  position_along (first ∷ trees) same =
      let here = same 0 first refl in
      let rest = position_along trees (λ n tree at. same (suc n) tree at) in
      λ i. cond (not (here i)) (1 + rest i) 0

  -- and so is whether any passes
  pub any_along : (trees : List Tree) → ((n : ℕ) (tree : Tree) → slice_get trees n ≡ Some tree → p (f tree) ≡ q tree) → list_any p (map f trees) ≡ list_any q trees
  any_along [] same = refl
  any_along (first ∷ trees) same =
      let here = same 0 first refl in
      let rest = any_along trees (λ n tree at. same (suc n) tree at) in
      λ i. here i || rest i

-- a node keeps the numbers of its parts when trees are added
pub node_kept : (trees more : List Tree) (tree : Tree) → HasParts trees tree → node_in (trees ++ more) tree ≡ node_in trees tree
node_kept trees more (both one other) has =
    let left = place_kept one trees more has.0 in
    let right = place_kept other trees more has.1 in
    λ i. And (left i) (right i)
node_kept trees more (some role filler) has = ap (Exists role) (place_kept filler trees more has)
node_kept trees more thing has = refl
node_kept trees more nothing has = refl
node_kept trees more (name class) has = refl

-- so do the nodes of several trees
nodes_kept : (trees more some_trees : List Tree) → ((n : ℕ) (tree : Tree) → slice_get some_trees n ≡ Some tree → HasParts trees tree) → map (node_in (trees ++ more)) some_trees ≡ map (node_in trees) some_trees
nodes_kept trees more [] has = refl
nodes_kept trees more (first ∷ rest) has =
    let here = node_kept trees more first (has 0 first refl) in
    let others = nodes_kept trees more rest (λ n tree at. has (suc n) tree at) in
    λ i. here i ∷ others i

-- the values of two lists, one after the other
map-append : {X Y : Type 0} (f : X → Y) (xs ys : List X) → map f (xs ++ ys) ≡ map f xs ++ map f ys
map-append f [] ys = refl
map-append f (x ∷ xs) ys = ap (λ zs. f x ∷ zs) (map-append f xs ys)

-- what adding a tree does: its number, the nodes, and that the forest stays one and goes on
pub record IsAdded (classes : ℕ) (old new : List Tree) (tree : Tree) (found : ℕ × List Node) : Type 0 where
  pub same : found ≡ (place_of tree new, nodes_over new)
  pub forest : IsForest classes new
  pub more : List Tree
  pub grows : new ≡ old ++ more
  pub has : Has new tree

-- a compound tree whose parts are there is added as its node is
module _ (classes : ℕ) (trees : List Tree) (forest : IsForest classes trees) (tree : Tree) (parts : HasParts trees tree) where
  -- the node passes the test where the tree does
  tests : (n : ℕ) (other : Tree) → slice_get trees n ≡ Some other → same_node (node_in trees tree) (node_in trees other) ≡ same_tree tree other
  tests n other at = same_shape trees tree other parts (forest.parts other (has_at trees n other at))

  -- its number is the place of the tree
  number_is : position_or_len (same_node (node_in trees tree)) (nodes_over trees) ≡ place_of tree trees
  number_is = position_along (same_node (node_in trees tree)) (same_tree tree) (node_in trees) trees tests

  -- it is there where the tree is
  there_is : list_any (same_node (node_in trees tree)) (nodes_over trees) ≡ list_any (same_tree tree) trees
  there_is = any_along (same_node (node_in trees tree)) (same_tree tree) (node_in trees) trees tests

  -- the nodes with the tree
  new_nodes : nodes_over (trees ++ tree ∷ []) ≡ nodes_over trees ++ node_in trees tree ∷ []
  new_nodes =
      map-append (node_in (trees ++ tree ∷ [])) trees (tree ∷ [])
      ∙ (λ i. nodes_kept trees (tree ∷ []) trees (λ n other at. forest.parts other (has_at trees n other at)) i ++ node_kept trees (tree ∷ []) tree parts i ∷ [])

  -- the trees with a new one have the parts of each
  new_forest : list_any (same_tree tree) trees ≡ false → IsForest classes (trees ++ tree ∷ [])
  new_forest lost = record {
    more = forest.more ++ tree ∷ [];
    begins = ap (λ ts. ts ++ tree ∷ []) forest.begins ∙ append_assoc (names_of classes) forest.more (tree ∷ []);
    parts = λ other has. parts_new other (list_any (same_tree other) trees) refl has;
    before = λ n other at. ⊎_elim
        (λ there. before_kept trees (tree ∷ []) n other (omega (arith, slice_get_within trees n other there)) (forest.before n other there))
        (λ last. subst (HasPartsBefore (trees ++ tree ∷ []) n) last.1
        (subst (λ m. HasPartsBefore (trees ++ tree ∷ []) m tree) (sym last.0) (before_kept trees (tree ∷ []) (length trees) tree (omega arith) parts)))
        (at_or_last trees tree n other at);
    once = λ n other at. ⊎_elim
        (λ there. place_kept other trees (tree ∷ []) (has_at trees n other there) ∙ forest.once n other there)
        (λ last. subst (λ t. place_of t (trees ++ tree ∷ []) ≡ n) last.1 (added_place tree trees lost ∙ sym last.0))
        (at_or_last trees tree n other at);
  }
    where
      parts_new : (other : Tree) (b : Bool) → list_any (same_tree other) trees ≡ b → Has (trees ++ tree ∷ []) other → HasParts (trees ++ tree ∷ []) other
      parts_new other true found has = parts_kept trees (tree ∷ []) other (forest.parts other (found_place other trees found))
      parts_new other false not_found has = subst (HasParts (trees ++ tree ∷ [])) (sym (only_added other tree trees not_found has)) (parts_kept trees (tree ∷ []) tree parts)

  -- what adding does, whether the tree is new or not
  step_by : (b : Bool) → list_any (same_tree tree) trees ≡ b →
      IsAdded classes trees (if b then trees else trees ++ tree ∷ []) tree (place_of tree trees, if b then nodes_over trees else nodes_over trees ++ node_in trees tree ∷ [])
  step_by true found = record { same = refl; forest = forest; more = []; grows = sym (append-nil trees); has = found_place tree trees found }
  step_by false lost = record {
    same = λ i. ((lost_place tree trees lost ∙ sym (added_place tree trees lost)) i, sym new_nodes i);
    forest = new_forest lost;
    more = tree ∷ [];
    grows = refl;
    has = omega (arith, added_place tree trees lost, length-append trees (tree ∷ []));
  }

  -- adding the node adds the tree
  pub added_is : IsAdded classes trees (with_tree trees tree) tree (added (node_in trees tree) (nodes_over trees))
  added_is = subst (IsAdded classes trees (with_tree trees tree) tree)
      (λ i. (sym number_is i, if sym there_is i then nodes_over trees else nodes_over trees ++ node_in trees tree ∷ []))
      (step_by (list_any (same_tree tree) trees) refl)
