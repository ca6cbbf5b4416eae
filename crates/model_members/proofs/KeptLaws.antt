-- Ascending numbers of which some are kept.
use Rattle.std.proofs.Common.{◌≡◌, ◌∙◌, ◌+◌, ◌<◌, ◌≤◌, ℕ, List, [], ◌∷◌, ◌++◌, length, get_or, take, All, Contains, ⊎_elim, sym, subst, arith, length-append}
use Rattle.std.specs.Prelude.{◌↔◌}
use Rattle.std.specs.List.Sorted.{IsStrictlyIncreasing}
use Rattle.std.proofs.lemmas.Bool.{cases_lt}
use Rattle.std.proofs.lemmas.List.{take_more, get_or-take, length-take-le, get_or_default, get_or_append_left, get_or-append-add}
use Rattle.std.proofs.lemmas.List.Elements.{All-contains, All-weaker, All-contains_itself, All-get_or, Contains-append_left, Contains-push, Contains-push_cases}
use Rattle.std.proofs.lemmas.List.Kept.{AllPairs-from_increasing}
use Rattle.model_members.specs.Inside.Sets.{AreElements, AreListed}

-- ascending numbers with a greater one behind them ascend
up_push : (numbers : List ℕ) (x : ℕ) → IsStrictlyIncreasing numbers → All (λ y. y < x) numbers → IsStrictlyIncreasing (numbers ++ x ∷ [])
up_push numbers x up below = λ k within.
    let long = length-append numbers (x ∷ []) in
    let end : k + 1 < length numbers + 1 = omega (arith, long, within) in
    let low : get_or (numbers ++ x ∷ []) k 0 ≡ get_or numbers k 0 = get_or_append_left numbers (x ∷ []) 0 k (omega (arith, end)) in
    ⊎_elim
    (λ (inside : k + 1 < length numbers).
    let high : get_or (numbers ++ x ∷ []) (k + 1) 0 ≡ get_or numbers (k + 1) 0 = get_or_append_left numbers (x ∷ []) 0 (k + 1) inside in
    let step : get_or numbers k 0 < get_or numbers (k + 1) 0 = up k inside in
    omega (arith, low, high, step))
    (λ (last : length numbers ≤ k + 1).
    let at : k + 1 ≡ length numbers + 0 = omega (arith, last, end) in
    let high : get_or (numbers ++ x ∷ []) (k + 1) 0 ≡ x = subst (λ n. get_or (numbers ++ x ∷ []) n 0 ≡ x) (sym at) (get_or-append-add numbers (x ∷ []) 0 0) in
    let less : get_or numbers k 0 < x = All-get_or (λ y. y < x) numbers k 0 (omega (arith, end)) below in
    omega (arith, low, high, less))
    (cases_lt (k + 1) (length numbers))

-- of ascending numbers, those before a place are below the one there
before_place : (numbers : List ℕ) (index y : ℕ) → IsStrictlyIncreasing numbers → index < length numbers → Contains (take index numbers) y → y < get_or numbers index 0
before_place numbers index y up within (k, inside, is) =
    let short : k < index = omega (arith, inside, length-take-le index numbers (omega (arith, within))) in
    let at : get_or numbers k 0 ≡ y = sym (get_or-take index numbers k 0 short) ∙ get_or_default (take index numbers) k 0 y inside ∙ is in
    let less : get_or numbers k 0 < get_or numbers index 0 = AllPairs-from_increasing numbers up k index 0 short within in
    omega (arith, at, less)

-- nothing is kept of none
pub kept_none : (Q : ℕ → Type 0) (numbers kept : List ℕ) → kept ≡ [] → AreListed (λ x. Contains (take 0 numbers) x × Q x) kept
kept_none Q numbers kept none = subst (AreListed (λ x. Contains (take 0 numbers) x × Q x)) (sym none) (record {
  ascending = λ k within. absurd (omega arith);
  same = λ x. ((λ there. absurd (omega (arith, there.1))), (λ both. absurd (omega (arith, both.0.1))));
})

module _ (Q : ℕ → Type 0) (numbers : List ℕ) (index : ℕ) (kept : List ℕ) where
  -- one more number that passes
  pub kept_more : IsStrictlyIncreasing numbers → index < length numbers → Q (get_or numbers index 0) → AreListed (λ x. Contains (take index numbers) x × Q x) kept
      → AreListed (λ x. Contains (take (index + 1) numbers) x × Q x) (kept ++ get_or numbers index 0 ∷ [])
  kept_more up within passes so_far =
      let next = get_or numbers index 0 in
      let done = take index numbers in
      let longer : take (index + 1) numbers ≡ done ++ next ∷ [] = take_more numbers index 0 within in
      subst (λ (prefix : List ℕ). AreListed (λ x. Contains prefix x × Q x) (kept ++ next ∷ [])) (sym longer) (record {
        ascending = up_push kept next so_far.ascending
            (All-weaker (Contains kept) (λ y. y < next) (λ y there. before_place numbers index y up within ((so_far.same y).0 there).0) kept (All-contains_itself kept));
        same = λ x. (
          (λ there. ⊎_elim
              (λ old. let was = (so_far.same x).0 old in (Contains-append_left done (next ∷ []) x was.0, was.1))
              (λ new. (subst (Contains (done ++ next ∷ [])) new (Contains-push done next), subst Q new passes))
              (Contains-push_cases kept next x there)),
          (λ (there, q). ⊎_elim
              (λ old. Contains-append_left kept (next ∷ []) x ((so_far.same x).1 (old, q)))
              (λ new. subst (Contains (kept ++ next ∷ [])) new (Contains-push kept next))
              (Contains-push_cases done next x there)),
        );
      })

  -- one that doesn't
  pub kept_same : index < length numbers → ¬ (Q (get_or numbers index 0)) → AreListed (λ x. Contains (take index numbers) x × Q x) kept
      → AreListed (λ x. Contains (take (index + 1) numbers) x × Q x) kept
  kept_same within fails so_far =
      let next = get_or numbers index 0 in
      let done = take index numbers in
      let longer : take (index + 1) numbers ≡ done ++ next ∷ [] = take_more numbers index 0 within in
      subst (λ (prefix : List ℕ). AreListed (λ x. Contains prefix x × Q x) kept) (sym longer) (record {
        ascending = so_far.ascending;
        same = λ x. (
          (λ there. let was = (so_far.same x).0 there in (Contains-append_left done (next ∷ []) x was.0, was.1)),
          (λ (there, q). ⊎_elim
              (λ old. (so_far.same x).1 (old, q))
              (λ new. absurd (fails (subst Q (sym new) q)))
              (Contains-push_cases done next x there)),
        );
      })

-- what is kept of elements are elements
pub kept_elements : (size : ℕ) (P : ℕ → Type 0) (numbers kept : List ℕ) → AreElements size numbers → AreListed (λ x. Contains numbers x × P x) kept → AreElements size kept
kept_elements size P numbers kept elements listed = (
  listed.ascending,
  All-weaker (Contains kept) (λ x. x < size) (λ x there. All-contains (λ y. y < size) numbers x elements.1 ((listed.same x).0 there).0) kept (All-contains_itself kept),
)

-- lists of those that pass are lists of those that pass the same
pub listed_same : (P Q : ℕ → Type 0) (numbers : List ℕ) → ((x : ℕ) → P x ↔ Q x) → AreListed P numbers → AreListed Q numbers
listed_same P Q numbers both listed = record {
  ascending = listed.ascending;
  same = λ x. ((λ there. (both x).0 ((listed.same x).0 there)), (λ passes. (listed.same x).1 ((both x).1 passes)));
}
