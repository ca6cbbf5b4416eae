-- Tests over the lists of an interpretation.
use Rattle.std.proofs.Common.{◌≡◌, ℕ, Bool, true, ◌&&◌, List, [], ◌∷◌, Contains, refl, sym, subst, rules}
use Rattle.std.specs.Prelude.{◌==◌}
use Rattle.std.specs.List.{list_any}
use Rattle.std.proofs.lemmas.Bool.{and_parts, and_from, eqb-true, eq-eqb, lt-ltb, ltb-true}
use Rattle.std.proofs.lemmas.List.Folds.{Any-from_list_any, list_any-from_Any}
use Rattle.el_logic.specs.declared.types.Interp.{Interp}
use Rattle.el_logic.specs.Meaning.{members_of, pairs_of, AreRelated, AreChained}
use Rattle.concept_store.specs.Trees.{Tree, thing, nothing, name, both, some}
use Rattle.concept_store.specs.Inside.InTrees.{InTree}
use Rattle.concept_store.specs.Inside.Tests.{is_in_tree, is_pair, leads}

-- a test that some element passes found one
passed : {X : Type 0} → (test : X → Bool) (xs : List X) → list_any test xs ≡ true → (x : X) × Contains xs x × (test x ≡ true)
passed test xs any = let one = Any-from_list_any test xs any in (one.1, (one.0, one.2, one.3), one.4)

-- and finds any that does
finds : {X : Type 0} → (test : X → Bool) (xs : List X) (x : X) → Contains xs x → test x ≡ true → list_any test xs ≡ true
finds test xs x held pass = list_any-from_Any test xs (held.0, x, held.1, held.2, pass)

module _ (i : Interp) where
  -- the test of members
  pub in_tree_found : (tree : Tree) (x : ℕ) → is_in_tree i x tree ≡ true → InTree i x tree
  in_tree_found thing x found = ltb-true x i.size found
  in_tree_found nothing x found = absurd (search (rules, found))
  in_tree_found (name class) x found =
      let one = passed (λ y. x == y) (members_of i class) found in
      subst (Contains (members_of i class)) (sym (eqb-true x one.0 one.2)) one.1
  in_tree_found (both one other) x found =
      let parts = and_parts (is_in_tree i x one) (is_in_tree i x other) found in
      (in_tree_found one x parts.0, in_tree_found other x parts.1)
  in_tree_found (some role filler) x found =
      let pair = passed (λ p. (p.0 == x) && is_in_tree i p.1 filler) (pairs_of i role) found in
      let parts = and_parts (pair.0.0 == x) (is_in_tree i pair.0.1 filler) pair.2 in
      (pair.0.1, subst (λ z. Contains (pairs_of i role) (z, pair.0.1)) (eqb-true pair.0.0 x parts.0) pair.1, in_tree_found filler pair.0.1 parts.1)

  pub in_tree_finds : (tree : Tree) (x : ℕ) → InTree i x tree → is_in_tree i x tree ≡ true
  in_tree_finds thing x member = lt-ltb x i.size member
  in_tree_finds nothing x member = absurd member
  in_tree_finds (name class) x member = finds (λ y. x == y) (members_of i class) x member (eq-eqb x x refl)
  in_tree_finds (both one other) x member =
      and_from (is_in_tree i x one) (is_in_tree i x other) (in_tree_finds one x member.0) (in_tree_finds other x member.1)
  in_tree_finds (some role filler) x (y, related, member) =
      finds (λ p. (p.0 == x) && is_in_tree i p.1 filler) (pairs_of i role) (x, y) related
      (and_from (x == x) (is_in_tree i y filler) (eq-eqb x x refl) (in_tree_finds filler y member))

  -- the test of pairs
  pub pair_found : (role x y : ℕ) → is_pair i role x y ≡ true → AreRelated i role x y
  pair_found role x y found =
      let pair = passed (λ p. (p.0 == x) && (p.1 == y)) (pairs_of i role) found in
      let parts = and_parts (pair.0.0 == x) (pair.0.1 == y) pair.2 in
      subst (λ z. Contains (pairs_of i role) (z, y)) (eqb-true pair.0.0 x parts.0)
      (subst (λ z. Contains (pairs_of i role) (pair.0.0, z)) (eqb-true pair.0.1 y parts.1) pair.1)

  pub pair_finds : (role x y : ℕ) → AreRelated i role x y → is_pair i role x y ≡ true
  pair_finds role x y related =
      finds (λ p. (p.0 == x) && (p.1 == y)) (pairs_of i role) (x, y) related (and_from (x == x) (y == y) (eq-eqb x x refl) (eq-eqb y y refl))

  -- the test of chains
  pub chain_found : (chain : List ℕ) (x y : ℕ) → leads i chain x y ≡ true → AreChained i chain x y
  chain_found [] x y found = eqb-true x y found
  chain_found (role ∷ chain) x y found =
      let pair = passed (λ p. (p.0 == x) && leads i chain p.1 y) (pairs_of i role) found in
      let parts = and_parts (pair.0.0 == x) (leads i chain pair.0.1 y) pair.2 in
      (pair.0.1, subst (λ z. Contains (pairs_of i role) (z, pair.0.1)) (eqb-true pair.0.0 x parts.0) pair.1, chain_found chain pair.0.1 y parts.1)

  pub chain_finds : (chain : List ℕ) (x y : ℕ) → AreChained i chain x y → leads i chain x y ≡ true
  chain_finds [] x y same = eq-eqb x y same
  chain_finds (role ∷ chain) x y (z, related, chained) =
      finds (λ p. (p.0 == x) && leads i chain p.1 y) (pairs_of i role) (x, z) related
      (and_from (x == x) (leads i chain z y) (eq-eqb x x refl) (chain_finds chain z y chained))
