-- Sums over the elements of a list that are read by `get_elem?`.
use Rattle.std.proofs.Common.{◌≡◌, ◌≢◌, ◌+◌, ◌≤◌, ℕ, zero, suc, List, [], ◌∷◌, set, refl, sym, ap, arith, lt_of_not-le}
use Rattle.std.specs.List.{sum_by}
use Rattle.std.proofs.lemmas.List.Sums.{sum_by-cons}
use mathlib.Core.Logic.{dite}
use mathlib.Core.Option.{some, some-injective, some-ne-none}
use native.Mathlib.Decide.{dec_le}
use lib.ListN.{get_elem?}

module _ {A : Type 0} (f : A → ℕ) where
  -- one element changes, and the sum by as much
  pub sum_by-set_at : (xs : List A) (i : ℕ) (v w : A) → get_elem? xs i ≡ some v
      → sum_by f (set xs i w) + f v ≡ sum_by f xs + f w
  sum_by-set_at [] i v w at = absurd (some-ne-none v (sym at))
  sum_by-set_at (x ∷ xs) zero v w at =
      let same : f x ≡ f v = ap f (some-injective x v at) in omega (arith, sum_by-cons f x xs, sum_by-cons f w xs)
  sum_by-set_at (x ∷ xs) (suc i) v w at =
      let rest = sum_by-set_at xs i v w at in omega (arith, sum_by-cons f x xs, sum_by-cons f x (set xs i w))

  -- an element adds no more than the sum
  pub sum_by-at_most : (xs : List A) (i : ℕ) (v : A) → get_elem? xs i ≡ some v → f v ≤ sum_by f xs
  sum_by-at_most [] i v at = absurd (some-ne-none v (sym at))
  sum_by-at_most (x ∷ xs) zero v at = let same : f x ≡ f v = ap f (some-injective x v at) in omega (arith, sum_by-cons f x xs)
  sum_by-at_most (x ∷ xs) (suc i) v at = let rest = sum_by-at_most xs i v at in omega (arith, sum_by-cons f x xs)

  -- two elements at different places add no more than the sum
  pub sum_by-two_at_most : (xs : List A) (i j : ℕ) (v w : A) → get_elem? xs i ≡ some v
      → get_elem? xs j ≡ some w → i ≢ j → f v + f w ≤ sum_by f xs
  sum_by-two_at_most [] i j v w at_i at_j apart = absurd (some-ne-none v (sym at_i))
  sum_by-two_at_most (x ∷ xs) zero zero v w at_i at_j apart = absurd (apart refl)
  sum_by-two_at_most (x ∷ xs) zero (suc j) v w at_i at_j apart =
      let same : f x ≡ f v = ap f (some-injective x v at_i) in
      let rest = sum_by-at_most xs j w at_j in
      omega (arith, sum_by-cons f x xs)
  sum_by-two_at_most (x ∷ xs) (suc i) zero v w at_i at_j apart =
      let same : f x ≡ f w = ap f (some-injective x w at_j) in
      let rest = sum_by-at_most xs i v at_i in
      omega (arith, sum_by-cons f x xs)
  sum_by-two_at_most (x ∷ xs) (suc i) (suc j) v w at_i at_j apart =
      let rest = sum_by-two_at_most xs i j v w at_i at_j (λ e. apart (ap suc e)) in omega (arith, sum_by-cons f x xs)

  -- a sum to which nothing adds is 0
  pub sum_by-none : (xs : List A) → ((j : ℕ) (w : A) → get_elem? xs j ≡ some w → f w ≡ 0)
      → sum_by f xs ≡ 0
  sum_by-none [] none = refl
  sum_by-none (x ∷ xs) none =
      let first = none zero x refl in
      let rest = sum_by-none xs (λ j w. none (suc j) w) in
      omega (arith, sum_by-cons f x xs)

  -- a sum to which one element alone adds is what it adds
  pub sum_by-only : (xs : List A) (i : ℕ) (v : A) → get_elem? xs i ≡ some v
      → ((j : ℕ) (w : A) → j ≢ i → get_elem? xs j ≡ some w → f w ≡ 0) → sum_by f xs ≡ f v
  sum_by-only [] i v at none = absurd (some-ne-none v (sym at))
  sum_by-only (x ∷ xs) zero v at none =
      let same : f x ≡ f v = ap f (some-injective x v at) in
      let rest = sum_by-none xs (λ j w. none (suc j) w (λ e. omega arith)) in
      omega (arith, sum_by-cons f x xs)
  sum_by-only (x ∷ xs) (suc i) v at none =
      let rest = sum_by-only xs i v at (λ j w apart. none (suc j) w (λ e. apart (omega arith))) in
      let first = none zero x (λ e. omega arith) refl in
      omega (arith, sum_by-cons f x xs)

  -- some element adds to a sum that is not 0
  pub sum_by-some : (xs : List A) → 1 ≤ sum_by f xs
      → (j : ℕ) × (w : A) × (get_elem? xs j ≡ some w) × (1 ≤ f w)
  sum_by-some [] least = absurd (omega arith)
  sum_by-some (x ∷ xs) least = dite (dec_le 1 (f x))
      (λ here. (zero, x, refl, here))
      (λ not_here.
      let less = lt_of_not-le not_here in
      let found = sum_by-some xs (omega (arith, sum_by-cons f x xs)) in
      (suc found.0, found.1, found.2, found.3))

-- where each element adds no more to one sum than to another, the sum is no more
pub sum_by-pointwise : {A : Type 0} (f g : A → ℕ) (xs : List A)
    → ((j : ℕ) (w : A) → get_elem? xs j ≡ some w → f w ≤ g w) → sum_by f xs ≤ sum_by g xs
sum_by-pointwise f g [] each = omega arith
sum_by-pointwise f g (x ∷ xs) each =
    let first = each zero x refl in
    let rest = sum_by-pointwise f g xs (λ j w. each (suc j) w) in
    omega (arith, sum_by-cons f x xs, sum_by-cons g x xs)
