-- The newest place of a key.
use Rattle.std.proofs.Common.{◌≡◌, ◌∙◌, ℕ, zero, suc, ◌+◌, ◌<◌, ◌≤◌, List, ◌++◌, ◌∷◌, [], length, Option, None, Some, refl, sym, ap, subst, arith, ◌⊎◌, inl, inr, if◌then◌else◌}
use Rattle.std.specs.Prelude.{slice_get}
use Rattle.std.proofs.Math.Numerals.{add-one}
use Rattle.std.proofs.lemmas.Bool.{cases_eq, eq-eqb, ne_eqb}
use Rattle.std.proofs.lemmas.Option.{none-some, same_Some}
use Rattle.fact_table.specs.Places.{HasKeyAt, IsClear}
use Rattle.fact_table.specs.Inside.Chains.{has_key, newest}

-- an element has the key, or does not
newest_pick : {X : Type 0} (key : X → ℕ) (k n v : ℕ) (o : Option X) → (((if has_key key k o then suc n else v) ≡ suc n) × ((x : X) × (o ≡ Some x) × (key x ≡ k))) ⊎ (((if has_key key k o then suc n else v) ≡ v) × ((x : X) → o ≡ Some x → key x ≡ k → ⊥))
newest_pick key k n v None = inr (refl, λ x e same. none-some x e)
newest_pick key k n v (Some x) = elim (cases_eq (key x) k) [
  | inl same ↦ inl (rw (eq-eqb (key x) k same) refl, (x, refl, same))
  | inr other ↦ inr (rw (ne_eqb (key x) k other) refl, λ y e same. other (ap key (same_Some x y e) ∙ same))
]

-- the newest place below n + 1 is n, or the newest one below n
newest_cases : {X : Type 0} (key : X → ℕ) (xs : List X) (k n : ℕ) → ((newest key xs k (suc n) ≡ suc n) × HasKeyAt key xs k n) ⊎ ((newest key xs k (suc n) ≡ newest key xs k n) × ((x : X) → slice_get xs n ≡ Some x → key x ≡ k → ⊥))
newest_cases key xs k n = newest_pick key k n (newest key xs k n) (slice_get xs n)

-- the newest place below n is below n
pub newest_within : {X : Type 0} (key : X → ℕ) (xs : List X) (k n : ℕ) → newest key xs k n ≤ n
newest_within key xs k zero = omega arith
newest_within key xs k (suc n) = elim (newest_cases key xs k n) [
  | inl a ↦ omega (arith, a.0)
  | inr a ↦ omega (arith, a.0, newest_within key xs k n)
]

-- the newest place has the key
pub newest_here : {X : Type 0} (key : X → ℕ) (xs : List X) (k n p : ℕ) → newest key xs k n ≡ p + 1 → HasKeyAt key xs k p
newest_here key xs k zero p e = absurd (omega (arith, e))
newest_here key xs k (suc n) p e = elim (newest_cases key xs k n) [
  | inl a ↦ let same : n ≡ p = omega (arith, a.0, e) in let P : ℕ → Type 0 = λ q. HasKeyAt key xs k q in subst P same a.1
  | inr a ↦ newest_here key xs k n p (sym a.0 ∙ e)
]

-- and no place after it has
pub newest_clear : {X : Type 0} (key : X → ℕ) (xs : List X) (k n : ℕ) → IsClear key xs k (newest key xs k n) n
newest_clear key xs k zero p above below has = omega (arith, below)
newest_clear key xs k (suc n) p above below has = elim (newest_cases key xs k n) [
  | inl a ↦ omega (arith, a.0, above, below)
  | inr a ↦ elim (cases_eq p n) [
    | inl same ↦ a.1 has.0 (ap (slice_get xs) (sym same) ∙ has.1) has.2
    | inr other ↦ newest_clear key xs k n p (omega (arith, a.0, above)) (omega (arith, below, other)) has
  ]
]

-- lists that agree below n have the same newest place below n
newest_agrees : {X : Type 0} (key : X → ℕ) (xs ys : List X) (k n : ℕ) → ((p : ℕ) → p < n → slice_get xs p ≡ slice_get ys p) → newest key xs k n ≡ newest key ys k n
newest_agrees key xs ys k zero agree = refl
newest_agrees {X} key xs ys k (suc n) agree =
    let here : slice_get xs n ≡ slice_get ys n = agree n (omega arith) in
    let before : newest key xs k n ≡ newest key ys k n = newest_agrees key xs ys k n (λ p low. agree p (omega (arith, low))) in
    ap (λ (o : Option X). if has_key key k o then suc n else newest key xs k n) here ∙ ap (λ (v : ℕ). if has_key key k (slice_get ys n) then suc n else v) before

-- what a list has before one more element
pub pushed_before : {X : Type 0} (xs : List X) (f : X) (p : ℕ) → p < length xs → slice_get (xs ++ f ∷ []) p ≡ slice_get xs p
pushed_before [] f p low = absurd (omega (arith, low))
pushed_before (x ∷ xs) f zero low = refl
pushed_before (x ∷ xs) f (suc p) low = pushed_before xs f p (omega (arith, low))

-- one more element is the last
pub pushed_last : {X : Type 0} (xs : List X) (f : X) → slice_get (xs ++ f ∷ []) (length xs) ≡ Some f
pushed_last [] f = refl
pushed_last (x ∷ xs) f = pushed_last xs f

-- what a list has with one more element
pub pushed_cases : {X : Type 0} (xs : List X) (f x : X) (p : ℕ) → slice_get (xs ++ f ∷ []) p ≡ Some x → ((p < length xs) × (slice_get xs p ≡ Some x)) ⊎ ((p ≡ length xs) × (f ≡ x))
pushed_cases [] f x zero e = inr (refl, same_Some f x e)
pushed_cases [] f x (suc p) e = absurd (none-some x e)
pushed_cases (y ∷ xs) f x zero e = inl (omega arith, e)
pushed_cases (y ∷ xs) f x (suc p) e = elim (pushed_cases xs f x p e) [
  | inl h ↦ inl (omega (arith, h.0), h.1)
  | inr h ↦ inr (omega (arith, h.0), h.1)
]

-- one more element leaves the newest places before it
pub newest_stays : {X : Type 0} (key : X → ℕ) (xs : List X) (f : X) (k n : ℕ) → n ≤ length xs → newest key (xs ++ f ∷ []) k n ≡ newest key xs k n
newest_stays key xs f k n low = newest_agrees key (xs ++ f ∷ []) xs k n (λ p below. pushed_before xs f p (omega (arith, low, below)))

-- one more element is the newest of its key
pub newest_added : {X : Type 0} (key : X → ℕ) (xs : List X) (f : X) (k : ℕ) → key f ≡ k → newest key (xs ++ f ∷ []) k (length xs + 1) ≡ length xs + 1
newest_added key xs f k same =
    let N : ℕ → Type 0 = λ n. newest key (xs ++ f ∷ []) k n ≡ n in
    subst N (sym (add-one (length xs))) (elim (newest_cases key (xs ++ f ∷ []) k (length xs)) [
      | inl a ↦ a.0
      | inr a ↦ absurd (a.1 f (pushed_last xs f) same)
    ])

-- and leaves those of other keys
pub newest_skips : {X : Type 0} (key : X → ℕ) (xs : List X) (f : X) (k : ℕ) → (key f ≡ k → ⊥) → newest key (xs ++ f ∷ []) k (length xs + 1) ≡ newest key xs k (length xs)
newest_skips key xs f k other =
    let N : ℕ → Type 0 = λ n. newest key (xs ++ f ∷ []) k n ≡ newest key xs k (length xs) in
    subst N (sym (add-one (length xs))) (elim (newest_cases key (xs ++ f ∷ []) k (length xs)) [
      | inl a ↦ absurd (other (ap key (same_Some f a.1.0 (sym (pushed_last xs f) ∙ a.1.1)) ∙ a.1.2))
      | inr a ↦ a.0 ∙ newest_stays key xs f k (length xs) (omega arith)
    ])
