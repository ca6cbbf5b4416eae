-- Elements of a list at their places, while elements are added at its end.
use Rattle.std.proofs.Common.{◌≡◌, ℕ, zero, suc, ◌+◌, ◌<◌, ◌≤◌, ◌⊎◌, List, [], ◌∷◌, ◌++◌, length, Contains, Some, refl, subst, inl, inr, ⊎_elim, arith}
use Rattle.std.specs.Prelude.{slice_get}
use Rattle.std.proofs.lemmas.Bool.{cases_lt}
use Rattle.std.proofs.lemmas.Option.{slice_get_within, slice_get-get_or, get_or_from_slice_get, none-some, same_Some}
use Rattle.fact_table.specs.declared.types.Fact.{Fact}
use Rattle.el_rules.specs.Following.{IsPlacedBelow}
use Rattle.rule_steps.specs.Answering.{IsAt}

module _ {T : Type 0} where
  -- an element stays at its place
  pub at_stays : (xs more : List T) (k : ℕ) (x : T) → slice_get xs k ≡ Some x → slice_get (xs ++ more) k ≡ Some x
  at_stays [] more k x at = absurd (none-some x at)
  at_stays (y ∷ xs) more zero x at = at
  at_stays (y ∷ xs) more (suc k) x at = at_stays xs more k x at

  -- what is at an old place was there
  pub was_at : (xs more : List T) (k : ℕ) (x : T) → k < length xs → slice_get (xs ++ more) k ≡ Some x → slice_get xs k ≡ Some x
  was_at [] more k x within at = absurd (omega arith)
  was_at (y ∷ xs) more zero x within at = at
  was_at (y ∷ xs) more (suc k) x within at = was_at xs more k x (omega arith) at

  -- one more element is at the end
  pub at_end : (xs : List T) (x : T) → slice_get (xs ++ x ∷ []) (length xs) ≡ Some x
  at_end [] x = refl
  at_end (y ∷ xs) x = at_end xs x

  -- and at no later place
  pub only_end : (xs : List T) (x y : T) (k : ℕ) → length xs ≤ k → slice_get (xs ++ x ∷ []) k ≡ Some y → (k ≡ length xs) × (x ≡ y)
  only_end [] x y zero past at = (refl, same_Some x y at)
  only_end [] x y (suc k) past at = absurd (none-some y at)
  only_end (z ∷ xs) x y zero past at = absurd (omega arith)
  only_end (z ∷ xs) x y (suc k) past at =
      let rest = only_end xs x y k (omega arith) at in
      (omega (arith, rest.0), rest.1)

  -- an element of a list has a place
  pub place_of : (xs : List T) (x : T) → Contains xs x → (k : ℕ) × (slice_get xs k ≡ Some x)
  place_of xs x held = (held.0, subst (λ y. slice_get xs held.0 ≡ Some y) held.2 (slice_get-get_or xs held.0 x held.1))

  -- what is at a place is an element
  pub held_at : (xs : List T) (k : ℕ) (x : T) → slice_get xs k ≡ Some x → Contains xs x
  held_at xs k x at = (k, slice_get_within xs k x at, get_or_from_slice_get xs k x x at)

-- a fact below the next place is below this one or at it
pub below_or_at : (p : ℕ) (facts : List Fact) (fact : Fact) → IsPlacedBelow (p + 1) facts fact → IsPlacedBelow p facts fact ⊎ IsAt p facts fact
below_or_at p facts fact (k, below, at) =
    ⊎_elim (λ less. inl (k, less, at)) (λ more. let same : k ≡ p = omega arith in inr (subst (λ q. slice_get facts q ≡ Some fact) same at)) (cases_lt k p)

-- and the other way round
pub below_next : (p : ℕ) (facts : List Fact) (fact : Fact) → IsPlacedBelow p facts fact ⊎ IsAt p facts fact → IsPlacedBelow (p + 1) facts fact
below_next p facts fact (inl (k, below, at)) = (k, omega arith, at)
below_next p facts fact (inr at) = (p, omega arith, at)

-- a fact of the list is below its length
pub below_end : (facts : List Fact) (fact : Fact) → Contains facts fact → IsPlacedBelow (length facts) facts fact
below_end facts fact held = let found = place_of facts fact held in (found.0, slice_get_within facts found.0 fact found.1, found.1)

-- a fact at a place is one of the list
pub held_below : (p : ℕ) (facts : List Fact) (fact : Fact) → IsPlacedBelow p facts fact → Contains facts fact
held_below p facts fact (k, below, at) = held_at facts k fact at
