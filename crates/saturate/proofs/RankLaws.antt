-- Ranks followed by further ones.
use Rattle.std.proofs.Common.{◌≡◌, ◌∙◌, ℕ, zero, suc, ◌<◌, ◌≤◌, All, List, [], ◌∷◌, ◌++◌, get_or, Contains, Some, None, refl, inl, inr, sym, ⊎_elim, arith}
use Rattle.std.specs.Prelude.{slice_get}
use Rattle.std.specs.List.Sorted.{IsStrictlyIncreasing}
use Rattle.std.proofs.lemmas.List.{get_or_default}
use Rattle.std.proofs.lemmas.List.Elements.{Contains-append_left, Contains-append_right, Contains-append_cases, All-contains}
use Rattle.std.proofs.lemmas.List.Kept.{AllPairs-from_increasing}
use Rattle.std.proofs.lemmas.Option.{same_Some, none-some}
use Rattle.saturate.specs.Inside.Saturated.{AddsRanks}
use Rattle.saturate.proofs.Places.{held_at}

-- the first of ascending numbers is the least
least : (xs : List ℕ) (first x : ℕ) → IsStrictlyIncreasing xs → Some first ≡ slice_get xs 0 → Contains xs x → first ≤ x
least [] first x rises head there = absurd (none-some first (sym head))
least (y ∷ xs) first x rises head (zero, within, same) = let is : first ≡ y = same_Some first y head in omega (arith, same)
least (y ∷ xs) first x rises head (suc k, within, same) =
    let is : first ≡ y = same_Some first y head in
    let less = AllPairs-from_increasing (y ∷ xs) rises 0 (suc k) 0 (omega arith) within in
    let at : get_or (y ∷ xs) (suc k) 0 ≡ x = get_or_default (y ∷ xs) (suc k) 0 x within ∙ same in
    omega arith

-- ranks followed by later ones add to the former
pub ranks_added : (olds more : List ℕ) (first : ℕ) → IsStrictlyIncreasing more → Some first ≡ slice_get more 0 → All (λ old. All (λ rank. old < rank) more) olds → AddsRanks olds first more (olds ++ more)
ranks_added olds more first rises head after = record {
  kept = λ rank there. Contains-append_left olds more rank there;
  since = λ rank there. ⊎_elim (λ old. inl old) (λ new. inr (least more first rank rises head new)) (Contains-append_cases olds more rank there);
  late = λ rank there from. ⊎_elim (λ old. absurd (before rank old from)) (λ new. new) (Contains-append_cases olds more rank there);
  added = λ rank there. Contains-append_right olds more rank there;
}
  where
    before : (rank : ℕ) → Contains olds rank → first ≤ rank → ⊥
    before rank old from =
        let less : rank < first = All-contains (λ x. rank < x) more first (All-contains (λ y. All (λ x. y < x) more) olds rank after old) (held_at more 0 first (sym head)) in
        omega arith

-- a list without a first element is empty
pub none_first : (xs : List ℕ) → None ≡ slice_get xs 0 → xs ≡ []
none_first [] head = refl
none_first (x ∷ xs) head = absurd (none-some x head)
