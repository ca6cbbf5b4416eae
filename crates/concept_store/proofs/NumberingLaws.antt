-- The numbers that the code gives are places in the list of trees.
use Rattle.std.proofs.Common.{◌≡◌, ℕ, zero, suc, ◌+◌, ◌<◌, Bool, true, false, not, cond, List, [], ◌∷◌, ◌++◌, length, map, refl, sym, ap, subst, ◌∙◌, arith, length-append, append_assoc}
use Rattle.std.specs.Prelude.{◌==◌}
use Rattle.std.specs.List.{range_with_len}
use Rattle.std.proofs.lemmas.Bool.{eq-eqb, eqb-true}
use Rattle.std.proofs.lemmas.List.{append-nil}
use Rattle.std.proofs.lemmas.List.Sums.{fold-append}
use Rattle.std.proofs.lemmas.List.FromFn.{length-map-range_with_len}
use Rattle.concept_store.specs.declared.types.Node.{Node}
use Rattle.concept_store.specs.declared.types.Node.TheVariants.{And, Exists}
use Rattle.concept_store.specs.Trees.{Tree, thing, nothing, name, both, some, compounds, IsTreeOver, place_of, with_tree, with_trees}
use Rattle.concept_store.specs.Nodes.{names_of, node_in, nodes_over}
use Rattle.concept_store.specs.Inside.Numbering.{added, numbered}
use Rattle.concept_store.proofs.TreeLaws.{place_kept}
use Rattle.concept_store.proofs.ForestLaws.{Has, IsForest, IsAdded, has_kept, added_is}

-- class names stand in the order of their numbers
pub place_of_name : (a n k : ℕ) → k < n → place_of (name (a + k)) (map name (range_with_len a n)) ≡ k
place_of_name a zero k within = absurd (omega arith)
place_of_name a (suc n) zero within = let here : (a + 0) ≡ a = omega arith in ap (λ b. cond (not b) (1 + place_of (name (a + 0)) (map name (range_with_len (a + 1) n))) 0) (eq-eqb (a + 0) a here)
place_of_name a (suc n) (suc k) within =
    let there : (a + suc k) ≡ (a + 1) + k = omega arith in
    let rest : place_of (name (a + suc k)) (map name (range_with_len (a + 1) n)) ≡ k = ap (λ m. place_of (name m) (map name (range_with_len (a + 1) n))) there ∙ place_of_name (a + 1) n k (omega arith) in
    by ((a + suc k) == a) refl rest
  where
    by : (b : Bool) → ((a + suc k) == a) ≡ b → place_of (name (a + suc k)) (map name (range_with_len (a + 1) n)) ≡ k → cond (not b) (1 + place_of (name (a + suc k)) (map name (range_with_len (a + 1) n))) 0 ≡ suc k
    by true same rest = absurd (let e = eqb-true (a + suc k) a same in omega arith)
    by false same rest = omega arith

-- where owl:Thing, owl:Nothing and the class names stand
module _ (classes : ℕ) (trees : List Tree) (forest : IsForest classes trees) where
  -- a name is where it is among the names
  along : (tree : Tree) (n : ℕ) → place_of tree (names_of classes) ≡ n → n < length (names_of classes) → (place_of tree trees ≡ n) × Has trees tree
  along tree n here within =
      let has : Has (names_of classes) tree = omega arith in
      let kept = place_kept tree (names_of classes) forest.more has in
      let same : place_of tree trees ≡ n = ap (place_of tree) forest.begins ∙ kept ∙ here in
      let long = ap length forest.begins in
      (same, omega (arith, same, long, length-append (names_of classes) forest.more))

  -- owl:Thing is first
  pub thing_is : (place_of thing trees ≡ 0) × Has trees thing
  thing_is = along thing 0 refl (omega arith)

  -- owl:Nothing is second
  pub nothing_is : (place_of nothing trees ≡ 1) × Has trees nothing
  nothing_is = along nothing 1 refl (omega arith)

  -- a class name is at its number and two more
  pub name_is : (k : ℕ) → k < classes → (place_of (name k) trees ≡ k + 2) × Has trees (name k)
  name_is k within =
      let zero_more : (0 + k) ≡ k = omega arith in
      let here : place_of (name k) (map name (range_with_len 0 classes)) ≡ k = subst (λ m. place_of (name m) (map name (range_with_len 0 classes)) ≡ k) zero_more (place_of_name 0 classes k within) in
      along (name k) (k + 2) (omega arith) (omega (arith, length-map-range_with_len name 0 classes))

-- one addition after another
pub then_added : (classes : ℕ) (old mid new : List Tree) (tree : Tree) (found : ℕ × List Node) (more : List Tree) → mid ≡ old ++ more → IsAdded classes mid new tree found → IsAdded classes old new tree found
then_added classes old mid new tree found more grows after = record {
  same = after.same;
  forest = after.forest;
  more = more ++ after.more;
  grows = after.grows ∙ ap (λ ts. ts ++ after.more) grows ∙ append_assoc old more after.more;
  has = after.has;
}

-- a name is there already
stands : (classes : ℕ) (trees : List Tree) (tree : Tree) (n : ℕ) → IsForest classes trees → (place_of tree trees ≡ n) × Has trees tree → IsAdded classes trees trees tree (n, nodes_over trees)
stands classes trees tree n forest is = record { same = λ i. (sym is.0 i, nodes_over trees); forest = forest; more = []; grows = sym (append-nil trees); has = is.1 }

-- numbering a tree adds its compound parts
pub numbered_is : (classes roles : ℕ) (tree : Tree) (trees : List Tree) → IsForest classes trees → IsTreeOver classes roles tree →
    IsAdded classes trees (with_trees trees (compounds tree)) tree (numbered tree (nodes_over trees))
numbered_is classes roles thing trees forest names = stands classes trees thing 0 forest (thing_is classes trees forest)
numbered_is classes roles nothing trees forest names = stands classes trees nothing 1 forest (nothing_is classes trees forest)
numbered_is classes roles (name class) trees forest names = stands classes trees (name class) (class + 2) forest (name_is classes trees forest class names)
numbered_is classes roles (both one other) trees forest names =
    let mid = with_trees trees (compounds one) in
    let end = with_trees mid (compounds other) in
    let left = numbered_is classes roles one trees forest names.0 in
    let right = numbered_is classes roles other mid left.forest names.1 in
    let kept : place_of one end ≡ place_of one mid = ap (place_of one) right.grows ∙ place_kept one mid right.more left.has in
    let has_one : Has end one = subst (λ ts. Has ts one) (sym right.grows) (has_kept mid right.more one left.has) in
    let first : numbered (both one other) (nodes_over trees) ≡ added (And (place_of one mid) (numbered other (nodes_over mid)).0) (numbered other (nodes_over mid)).1 =
    ap (λ (w : ℕ × List Node). added (And w.0 (numbered other w.1).0) (numbered other w.1).1) left.same in
    let second : added (And (place_of one mid) (numbered other (nodes_over mid)).0) (numbered other (nodes_over mid)).1 ≡ added (And (place_of one mid) (place_of other end)) (nodes_over end) =
    ap (λ (w : ℕ × List Node). added (And (place_of one mid) w.0) w.1) right.same in
    let third : added (And (place_of one mid) (place_of other end)) (nodes_over end) ≡ added (And (place_of one end) (place_of other end)) (nodes_over end) =
    ap (λ n. added (And n (place_of other end)) (nodes_over end)) (sym kept) in
    let last = added_is classes end right.forest (both one other) (has_one, right.has) in
    let all : with_trees trees (compounds (both one other)) ≡ with_tree end (both one other) =
    fold-append with_tree trees (compounds one ++ compounds other) (both one other ∷ []) ∙ ap (λ ts. with_tree ts (both one other)) (fold-append with_tree trees (compounds one) (compounds other)) in
    subst (λ new. IsAdded classes trees new (both one other) (numbered (both one other) (nodes_over trees))) (sym all)
    (subst (IsAdded classes trees (with_tree end (both one other)) (both one other)) (sym (first ∙ second ∙ third))
    (then_added classes trees mid (with_tree end (both one other)) (both one other) (added (node_in end (both one other)) (nodes_over end)) left.more left.grows
    (then_added classes mid end (with_tree end (both one other)) (both one other) (added (node_in end (both one other)) (nodes_over end)) right.more right.grows last)))
numbered_is classes roles (some role filler) trees forest names =
    let mid = with_trees trees (compounds filler) in
    let inner = numbered_is classes roles filler trees forest names.1 in
    let first : numbered (some role filler) (nodes_over trees) ≡ added (Exists role (place_of filler mid)) (nodes_over mid) =
    ap (λ (w : ℕ × List Node). added (Exists role w.0) w.1) inner.same in
    let last = added_is classes mid inner.forest (some role filler) inner.has in
    let all : with_trees trees (compounds (some role filler)) ≡ with_tree mid (some role filler) = fold-append with_tree trees (compounds filler) (some role filler ∷ []) in
    subst (λ new. IsAdded classes trees new (some role filler) (numbered (some role filler) (nodes_over trees))) (sym all)
    (subst (IsAdded classes trees (with_tree mid (some role filler)) (some role filler)) (sym first)
    (then_added classes trees mid (with_tree mid (some role filler)) (some role filler) (added (node_in mid (some role filler)) (nodes_over mid)) inner.more inner.grows last))
