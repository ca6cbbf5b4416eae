-- Facts of every view of a list in which one view changes, or to which one is added.
use Rattle.std.proofs.Common.{◌≡◌, ◌≢◌, ℕ, zero, suc, List, [], ◌∷◌, ◌++◌, set, refl, sym, subst, ⊎_elim}
use mathlib.Core.Option.{some, some-injective, some-ne-none}
use lib.ListN.{get_elem?}
use Rattle.atomic_table.proofs.Lists.{at_set, at_snoc}

module _ {A : Type 0} where
  -- the only element of a list
  pub only_one : (x y : A) (j : ℕ) → get_elem? (x ∷ []) j ≡ some y → x ≡ y
  only_one x y zero at = some-injective x y at
  only_one x y (suc j) at = absurd (some-ne-none y (sym at))

  -- an element that was put in place of another is there
  pub set_there : (xs : List A) (i : ℕ) (v w : A) → get_elem? xs i ≡ some v
      → get_elem? (set xs i w) i ≡ some w
  set_there [] i v w at = absurd (some-ne-none v (sym at))
  set_there (x ∷ xs) zero v w at = refl
  set_there (x ∷ xs) (suc i) v w at = set_there xs i v w at

  -- a fact of the new view, and of all others as they were
  pub each_changed : (P : A → Type 0) (xs : List A) (i : ℕ) (w : A) → P w
      → ((j : ℕ) (x : A) → j ≢ i → get_elem? xs j ≡ some x → P x)
      → (j : ℕ) (x : A) → get_elem? (set xs i w) j ≡ some x → P x
  each_changed P xs i w mine others j x at = ⊎_elim
      (λ (t : (j ≡ i) × (w ≡ x)). subst P t.1 mine)
      (λ (t : (j ≢ i) × (get_elem? xs j ≡ some x)). others j x t.0 t.1)
      (at_set xs i j w x at)

  -- a fact of the view that is added, and of all that were there
  pub each_added : (P : A → Type 0) (xs : List A) (w : A) → P w
      → ((j : ℕ) (x : A) → get_elem? xs j ≡ some x → P x)
      → (j : ℕ) (x : A) → get_elem? (xs ++ w ∷ []) j ≡ some x → P x
  each_added P xs w mine others j x at = ⊎_elim
      (λ (old : get_elem? xs j ≡ some x). others j x old)
      (λ (t : w ≡ x). subst P t mine)
      (at_snoc xs w x j at)
