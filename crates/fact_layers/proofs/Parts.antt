-- Parts of a list, and answers of look-ups in them.
use Rattle.std.proofs.Common.{◌≡◌, ◌∙◌, ◌⊎◌, ℕ, zero, suc, ◌+◌, ◌-◌, ◌<◌, ◌≤◌, List, [], ◌∷◌, ◌++◌, length, map, Option, Some, None, refl, sym, ap, subst, arith, inl, inr}
use Rattle.std.specs.Prelude.{slice_get}
use Rattle.std.specs.Option.{option_map}
use Rattle.std.proofs.lemmas.Bool.{cases_order}
use Rattle.std.proofs.lemmas.List.{length-map}
use Rattle.std.proofs.lemmas.Option.{slice_get_within, slice_get-map, same_Some, none-some}
use Rattle.fact_table.specs.Places.{HasKeyAt, IsClear, IsLastBelow}
use Rattle.fact_layers.specs.Inside.Stacks.{IsShifted}

-- what the front of a joined list has
pub at_left : {X : Type 0} (xs ys : List X) (p : ℕ) → p < length xs → slice_get (xs ++ ys) p ≡ slice_get xs p
at_left [] ys p low = absurd (omega (arith, low))
at_left (x ∷ xs) ys zero low = refl
at_left (x ∷ xs) ys (suc p) low = at_left xs ys p (omega (arith, low))

-- and what its rest has
pub at_right : {X : Type 0} (xs ys : List X) (p : ℕ) → slice_get (xs ++ ys) (length xs + p) ≡ slice_get ys p
at_right [] ys p = let zero_first : 0 + p ≡ p = omega arith in ap (slice_get ys) zero_first
at_right (x ∷ xs) ys p =
    let next : suc (length xs) + p ≡ suc (length xs + p) = omega arith in
    ap (slice_get (x ∷ (xs ++ ys))) next ∙ at_right xs ys p

-- so what a joined list has is of its front or of its rest
pub joined_cases : {X : Type 0} (xs ys : List X) (p : ℕ) (x : X) → slice_get (xs ++ ys) p ≡ Some x
    → ((p < length xs) × (slice_get xs p ≡ Some x)) ⊎ ((q : ℕ) × (p ≡ length xs + q) × (slice_get ys q ≡ Some x))
joined_cases [] ys p x at = inr (p, omega arith, at)
joined_cases (y ∷ xs) ys zero x at = inl (omega arith, at)
joined_cases (y ∷ xs) ys (suc p) x at = elim (joined_cases xs ys p x at) [
  | inl front ↦ inl (omega (arith, front.0), front.1)
  | inr rest ↦ inr (rest.0, omega (arith, rest.1), rest.2)
]

-- the only element of a list
pub only_at : {X : Type 0} (f x : X) (q : ℕ) → slice_get (f ∷ []) q ≡ Some x → (q ≡ 0) × (f ≡ x)
only_at f x zero at = (refl, same_Some f x at)
only_at f x (suc q) at = absurd (none-some x at)

-- a part of a list, from a place on
pub record IsPart {X : Type 0} (xs part : List X) (start : ℕ) : Type 0 where
  pub same : (p : ℕ) → p < length part → slice_get xs (start + p) ≡ slice_get part p

-- what stands between a front and a rest
pub middle_part : {X : Type 0} (front part rest : List X) → IsPart (front ++ (part ++ rest)) part (length front)
middle_part front part rest = record { same = λ p low. at_right front (part ++ rest) p ∙ at_left part rest p low }

-- what stands after a front
pub last_part : {X : Type 0} (front part : List X) → IsPart (front ++ part) part (length front)
last_part front part = record { same = λ p low. at_right front part p }

-- what is read of a part is a part of what is read
pub read_part : {X Y : Type 0} (read : X → Y) (xs part : List X) (start : ℕ) → IsPart xs part start → IsPart (map read xs) (map read part) start
read_part read xs part start h = record {
  same = λ p low.
      slice_get-map read xs (start + p) ∙ ap (option_map read) (h.same p (omega (arith, low, length-map part read))) ∙ sym (slice_get-map read part p);
}

-- a place of the list that has the key, within the part
pub has_in : {X K : Type 0} (key : X → K) (xs part : List X) (start : ℕ) (k : K) (q : ℕ) → IsPart xs part start → start ≤ q → q < start + length part → HasKeyAt key xs k q → HasKeyAt key part k (q - start)
has_in key xs part start k q h above below has =
    let again : start + (q - start) ≡ q = omega (arith, above) in
    (has.0, sym (h.same (q - start) (omega (arith, above, below))) ∙ ap (slice_get xs) again ∙ has.1, has.2)

-- what the part has, in the list
pub part_at : {X : Type 0} (xs part : List X) (start q : ℕ) (x : X) → IsPart xs part start → start ≤ q → slice_get part (q - start) ≡ Some x → slice_get xs q ≡ Some x
part_at xs part start q x h above at =
    let again : start + (q - start) ≡ q = omega (arith, above) in
    ap (slice_get xs) (sym again) ∙ h.same (q - start) (slice_get_within part (q - start) x at) ∙ at

-- a place of the part that has the key, in the list
pub has_out : {X K : Type 0} (key : X → K) (xs part : List X) (start : ℕ) (k : K) (q : ℕ) → IsPart xs part start → start ≤ q → HasKeyAt key part k (q - start) → HasKeyAt key xs k q
has_out key xs part start k q h above has = (has.0, part_at xs part start q has.0 h above has.1, has.2)

-- a part that has no such place adds to what is clear after it
pub clear_part : {X K : Type 0} (key : X → K) (xs part : List X) (start : ℕ) (k : K) (below : ℕ) → IsPart xs part start → IsClear key part k 0 (below - start) → IsClear key xs k (start + length part) below → IsClear key xs k start below
clear_part key xs part start k below h none after q above under has = elim (cases_order q (start + length part)) [
  | inl same ↦ after q (omega (arith, same)) under has
  | inr (inl less) ↦ none (q - start) (omega arith) (omega (arith, above, under)) (has_in key xs part start k q h above less has)
  | inr (inr more) ↦ after q (omega (arith, more)) under has
]

-- the last such place of a part is that of the list, if what comes after it is clear
pub last_in_part : {X K : Type 0} (key : X → K) (xs part : List X) (start : ℕ) (k : K) (below p : ℕ) → IsPart xs part start → IsShifted start (IsLastBelow key part k (below - start)) (Some p) → IsClear key xs k (start + length part) below → IsLastBelow key xs k below (Some p)
last_in_part key xs part start k below p h last after = (
  omega (arith, last.0, last.1.0),
  has_out key xs part start k p h last.0 last.1.1,
  λ q above under has. elim (cases_order q (start + length part)) [
    | inl same ↦ after q (omega (arith, same)) under has
    | inr (inl less) ↦ last.1.2 (q - start) (omega (arith, above, last.0)) (omega (arith, above, under, last.0)) (has_in key xs part start k q h (omega (arith, above, last.0)) less has)
    | inr (inr more) ↦ after q (omega (arith, more)) under has
  ],
)

-- the same of a front
pub clear_front : {X K : Type 0} (key : X → K) (front rest : List X) (k : K) (below : ℕ) → IsClear key front k 0 below → IsClear key (front ++ rest) k (length front) below → IsClear key (front ++ rest) k 0 below
clear_front key front rest k below none after q above under has = elim (cases_order q (length front)) [
  | inl same ↦ after q (omega (arith, same)) under has
  | inr (inl less) ↦ none q above under (has.0, sym (at_left front rest q less) ∙ has.1, has.2)
  | inr (inr more) ↦ after q (omega (arith, more)) under has
]

-- the last such place of a front is that of the list, if what comes after it is clear
pub last_in_front : {X K : Type 0} (key : X → K) (front rest : List X) (k : K) (below : ℕ) (result : Option ℕ) → IsLastBelow key front k below result → IsClear key (front ++ rest) k (length front) below → IsLastBelow key (front ++ rest) k below result
last_in_front key front rest k below None last after = clear_front key front rest k below last after
last_in_front key front rest k below (Some p) last after =
    let low : p < length front = slice_get_within front p last.1.0 last.1.1 in (
      last.0,
      (last.1.0, at_left front rest p low ∙ last.1.1, last.1.2),
      λ q above under has. elim (cases_order q (length front)) [
        | inl same ↦ after q (omega (arith, same)) under has
        | inr (inl less) ↦ last.2 q above under (has.0, sym (at_left front rest q less) ∙ has.1, has.2)
        | inr (inr more) ↦ after q (omega (arith, more)) under has
      ],
    )

-- nothing is past the end of a list
pub clear_past : {X K : Type 0} (key : X → K) (xs : List X) (k : K) (start below : ℕ) → length xs ≤ start → IsClear key xs k start below
clear_past key xs k start below long q above under has = omega (arith, long, above, slice_get_within xs q has.0 has.1)

-- clear of one stretch and of the next
pub clear_join : {X K : Type 0} (key : X → K) (xs : List X) (k : K) (a b below : ℕ) → IsClear key xs k a b → IsClear key xs k b below → IsClear key xs k a below
clear_join key xs k a b below first next q above under has = elim (cases_order q b) [
  | inl same ↦ next q (omega (arith, same)) under has
  | inr (inl less) ↦ first q above less has
  | inr (inr more) ↦ next q (omega (arith, more)) under has
]

-- an answer by places of a part, moved to those of the list
pub shifted_some : (Answers : Option ℕ → Type 0) (start p : ℕ) → Answers (Some p) → IsShifted start Answers (Some (start + p))
shifted_some Answers start p h =
    let back : p ≡ (start + p) - start = omega arith in
    let P : ℕ → Type 0 = λ q. Answers (Some q) in
    (omega arith, subst P back h)
