-- Trees and their places in a list.
use Rattle.std.proofs.Common.{◌≡◌, ℕ, zero, suc, ◌+◌, ◌<◌, ◌≤◌, Bool, true, false, not, cond, ◌||◌, List, [], ◌∷◌, ◌++◌, length, Some, slice_get, refl, sym, ap, ◌∙◌, true≢false, arith}
use Rattle.std.specs.Prelude.{◌==◌}
use Rattle.std.specs.List.{list_any}
use Rattle.std.proofs.lemmas.Bool.{eqb-true, eq-eqb, and_from, and_parts}
use Rattle.std.proofs.lemmas.Option.{same_Some, none-some}
use Rattle.concept_store.specs.Trees.{Tree, thing, nothing, name, both, some, same_tree, place_of}

-- trees that pass the test are equal
pub same_tree_equal : (one other : Tree) → same_tree one other ≡ true → one ≡ other
same_tree_equal thing thing passed = refl
same_tree_equal nothing nothing passed = refl
same_tree_equal (name a) (name b) passed = ap name (eqb-true a b passed)
same_tree_equal (both a b) (both c d) passed =
    let parts = and_parts (same_tree a c) (same_tree b d) passed in
    let left = same_tree_equal a c parts.0 in
    let right = same_tree_equal b d parts.1 in
    λ i. both (left i) (right i)
same_tree_equal (some r a) (some s b) passed =
    let parts = and_parts (r == s) (same_tree a b) passed in
    let left = eqb-true r s parts.0 in
    let right = same_tree_equal a b parts.1 in
    λ i. some (left i) (right i)
same_tree_equal _ _ passed = absurd (true≢false (sym passed))

-- a tree passes the test with itself
pub same_tree_itself : (tree : Tree) → same_tree tree tree ≡ true
same_tree_itself thing = refl
same_tree_itself nothing = refl
same_tree_itself (name a) = eq-eqb a a refl
same_tree_itself (both a b) = and_from (same_tree a a) (same_tree b b) (same_tree_itself a) (same_tree_itself b)
same_tree_itself (some r a) = and_from (r == r) (same_tree a a) (eq-eqb r r refl) (same_tree_itself a)

-- one more, written either way
pub one_more : (n : ℕ) → 1 + n ≡ suc n
one_more n = omega arith

-- a place is at most the length
pub place_within : (tree : Tree) (trees : List Tree) → place_of tree trees ≤ length trees
place_within tree [] = omega arith
place_within tree (first ∷ trees) = by (same_tree tree first) (place_within tree trees)
  where
    by : (b : Bool) → place_of tree trees ≤ length trees → cond (not b) (1 + place_of tree trees) 0 ≤ length (first ∷ trees)
    by true rest = omega arith
    by false rest = omega arith

-- a tree that is there stands at its place
pub at_place : (tree : Tree) (trees : List Tree) → place_of tree trees < length trees → slice_get trees (place_of tree trees) ≡ Some tree
at_place tree [] there = absurd (omega arith)
at_place tree (first ∷ trees) there = by (same_tree tree first) refl (at_place tree trees) there
  where
    by : (b : Bool) → same_tree tree first ≡ b → (place_of tree trees < length trees → slice_get trees (place_of tree trees) ≡ Some tree) → cond (not b) (1 + place_of tree trees) 0 < length (first ∷ trees) → slice_get (first ∷ trees) (cond (not b) (1 + place_of tree trees) 0) ≡ Some tree
    by true same rest h = ap Some (sym (same_tree_equal tree first same))
    by false same rest h = rw one_more (rest (omega arith))

-- and no later than any place at which it stands
pub place_first : (tree : Tree) (trees : List Tree) (n : ℕ) → slice_get trees n ≡ Some tree → place_of tree trees ≤ n
place_first tree [] n at = absurd (none-some tree at)
place_first tree (first ∷ trees) zero at =
    let same : same_tree tree first ≡ true = ap (same_tree tree) (same_Some first tree at) ∙ same_tree_itself tree in
    let zero_is : place_of tree (first ∷ trees) ≡ 0 = ap (λ b. cond (not b) (1 + place_of tree trees) 0) same in
    omega arith
place_first tree (first ∷ trees) (suc n) at = by (same_tree tree first) (place_first tree trees n at)
  where
    by : (b : Bool) → place_of tree trees ≤ n → cond (not b) (1 + place_of tree trees) 0 ≤ suc n
    by true rest = omega arith
    by false rest = omega arith

-- a tree keeps its place when trees are added
pub place_kept : (tree : Tree) (trees more : List Tree) → place_of tree trees < length trees → place_of tree (trees ++ more) ≡ place_of tree trees
place_kept tree [] more there = absurd (omega arith)
place_kept tree (first ∷ trees) more there = by (same_tree tree first) (place_kept tree trees more) there
  where
    by : (b : Bool) → (place_of tree trees < length trees → place_of tree (trees ++ more) ≡ place_of tree trees) → cond (not b) (1 + place_of tree trees) 0 < length (first ∷ trees) → cond (not b) (1 + place_of tree (trees ++ more)) 0 ≡ cond (not b) (1 + place_of tree trees) 0
    by true rest h = refl
    by false rest h = ap (λ n. 1 + n) (rest (omega arith))

-- the test finds a tree exactly where its place is within the list
pub found_place : (tree : Tree) (trees : List Tree) → list_any (same_tree tree) trees ≡ true → place_of tree trees < length trees
found_place tree [] found = absurd (true≢false (sym found))
found_place tree (first ∷ trees) found = by (same_tree tree first) (found_place tree trees) found
  where
    by : (b : Bool) → (list_any (same_tree tree) trees ≡ true → place_of tree trees < length trees) → (b || list_any (same_tree tree) trees) ≡ true → cond (not b) (1 + place_of tree trees) 0 < length (first ∷ trees)
    by true rest h = omega arith
    by false rest h = omega (arith, rest h)

-- a tree that is not there has the length as its place
pub lost_place : (tree : Tree) (trees : List Tree) → list_any (same_tree tree) trees ≡ false → place_of tree trees ≡ length trees
lost_place tree [] lost = refl
lost_place tree (first ∷ trees) lost = by (same_tree tree first) (lost_place tree trees) lost
  where
    by : (b : Bool) → (list_any (same_tree tree) trees ≡ false → place_of tree trees ≡ length trees) → (b || list_any (same_tree tree) trees) ≡ false → cond (not b) (1 + place_of tree trees) 0 ≡ length (first ∷ trees)
    by true rest h = absurd (true≢false h)
    by false rest h = omega (arith, rest h)

-- a tree that was added stands at its place, and no other place moved
pub added_place : (tree : Tree) (trees : List Tree) → list_any (same_tree tree) trees ≡ false → place_of tree (trees ++ tree ∷ []) ≡ length trees
added_place tree [] lost = ap (λ b. cond (not b) (1 + 0) 0) (same_tree_itself tree)
added_place tree (first ∷ trees) lost = by (same_tree tree first) (added_place tree trees) lost
  where
    by : (b : Bool) → (list_any (same_tree tree) trees ≡ false → place_of tree (trees ++ tree ∷ []) ≡ length trees) → (b || list_any (same_tree tree) trees) ≡ false → cond (not b) (1 + place_of tree (trees ++ tree ∷ [])) 0 ≡ length (first ∷ trees)
    by true rest h = absurd (true≢false h)
    by false rest h = omega (arith, rest h)

-- a tree that was not there before one was added is that one
pub only_added : (other tree : Tree) (trees : List Tree) → list_any (same_tree other) trees ≡ false → place_of other (trees ++ tree ∷ []) < length (trees ++ tree ∷ []) → other ≡ tree
only_added other tree [] lost there = by (same_tree other tree) refl there
  where
    by : (b : Bool) → same_tree other tree ≡ b → cond (not b) (1 + 0) 0 < 1 → other ≡ tree
    by true same h = same_tree_equal other tree same
    by false same h = absurd (omega arith)
only_added other tree (first ∷ trees) lost there = by (same_tree other first) (only_added other tree trees) lost there
  where
    by : (b : Bool) → (list_any (same_tree other) trees ≡ false → place_of other (trees ++ tree ∷ []) < length (trees ++ tree ∷ []) → other ≡ tree) → (b || list_any (same_tree other) trees) ≡ false →
        cond (not b) (1 + place_of other (trees ++ tree ∷ [])) 0 < length (first ∷ (trees ++ tree ∷ [])) → other ≡ tree
    by true rest h there_too = absurd (true≢false h)
    by false rest h there_too = rest h (omega arith)
