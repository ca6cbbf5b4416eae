-- Chains grown by an element, and cut by one.
use Rattle.std.proofs.Common.{◌≡◌, ◌∙◌, ℕ, ◌+◌, ◌<◌, List, [], ◌∷◌, ◌++◌, length, get_or, set, Some, refl, sym, ap, subst, arith, inl, inr}
use Rattle.std.specs.Prelude.{slice_get}
use Rattle.std.proofs.lemmas.Bool.{cases_eq}
use Rattle.std.proofs.lemmas.Option.{slice_get_within, slice_get_past, none-some}
use Rattle.std.proofs.lemmas.List.{get_or-set_same, get_or-set_other, get_or_append_left, get_or_push, length-set, length-append}
use Rattle.fact_table.specs.Inside.Chains.{newest, AreChainedBy}
use Rattle.fact_table.proofs.Newest.{newest_stays, newest_added, newest_skips, pushed_before, pushed_last, pushed_cases}

-- every element is covered after one more
covered_more : {X : Type 0} (key : X → ℕ) (xs : List X) (f x : X) (p n : ℕ) → ((q : ℕ) (y : X) → slice_get xs q ≡ Some y → key y < n) → key f < n → slice_get (xs ++ f ∷ []) p ≡ Some x → key x < n
covered_more key xs f x p n old new at = elim (pushed_cases xs f x p at) [
  | inl a ↦ old p x a.1
  | inr a ↦ let P : ℕ → Type 0 = λ k. k < n in subst P (ap key a.1) new
]

-- one more element is put before all others of its chain
pub chained_more : {X : Type 0} (key : X → ℕ) (xs : List X) (links heads : List ℕ) (f : X) (v : ℕ) → AreChainedBy key xs links heads → key f < length heads → v ≡ get_or heads (key f) 0
    → AreChainedBy key (xs ++ f ∷ []) (links ++ v ∷ []) (set heads (key f) (length xs + 1))
chained_more {X} key xs links heads f v h within was =
    let long : length (xs ++ f ∷ []) ≡ length xs + 1 = length-append xs (f ∷ []) in
    record {
      count = omega (arith, h.count, long, length-append links (v ∷ []));
      newest_of = λ k. elim (cases_eq k (key f)) [
        | inl same ↦
            ap (λ (j : ℕ). get_or (set heads (key f) (length xs + 1)) j 0) same ∙ get_or-set_same heads (key f) (length xs + 1) 0 within
            ∙ sym (ap (newest key (xs ++ f ∷ []) k) long ∙ newest_added key xs f k (sym same))
        | inr other ↦
            get_or-set_other heads (key f) k (length xs + 1) 0 other ∙ h.newest_of k
            ∙ sym (ap (newest key (xs ++ f ∷ []) k) long ∙ newest_skips key xs f k (λ e. other (sym e)))
      ];
      earlier = λ p x at. elim (pushed_cases xs f x p at) [
        | inl a ↦
            get_or_append_left links (v ∷ []) 0 p (omega (arith, a.0, h.count)) ∙ h.earlier p x a.1
            ∙ sym (newest_stays key xs f (key x) p (omega (arith, a.0)))
        | inr a ↦
            get_or_push links v 0 p (h.count ∙ sym a.0) ∙ was ∙ h.newest_of (key f)
            ∙ sym (newest_stays key xs f (key f) (length xs) (omega arith))
            ∙ ap (newest key (xs ++ f ∷ []) (key f)) (sym a.0)
            ∙ ap (λ (y : X). newest key (xs ++ f ∷ []) (key y) p) a.1
      ];
      covered = λ p x at.
          let same : length (set heads (key f) (length xs + 1)) ≡ length heads = length-set heads (key f) (length xs + 1) in
          let P : ℕ → Type 0 = λ n. key x < n in
          subst P (sym same) (covered_more key xs f x p (length heads) h.covered within at);
    }

-- the last element is taken out of its chain
pub chained_less : {X : Type 0} (key : X → ℕ) (xs : List X) (links heads : List ℕ) (f : X) (v : ℕ) → AreChainedBy key (xs ++ f ∷ []) (links ++ v ∷ []) heads → AreChainedBy key xs links (set heads (key f) v)
chained_less {X} key xs links heads f v h =
    let long : length (xs ++ f ∷ []) ≡ length xs + 1 = length-append xs (f ∷ []) in
    let count : length links ≡ length xs = omega (arith, h.count, long, length-append links (v ∷ [])) in
    let within : key f < length heads = h.covered (length xs) f (pushed_last xs f) in
    record {
      count = count;
      newest_of = λ k. elim (cases_eq k (key f)) [
        | inl same ↦
            ap (λ (j : ℕ). get_or (set heads (key f) v) j 0) same ∙ get_or-set_same heads (key f) v 0 within
            ∙ sym (get_or_push links v 0 (length xs) count) ∙ h.earlier (length xs) f (pushed_last xs f)
            ∙ newest_stays key xs f (key f) (length xs) (omega arith)
            ∙ ap (λ (j : ℕ). newest key xs j (length xs)) (sym same)
        | inr other ↦
            get_or-set_other heads (key f) k v 0 other ∙ h.newest_of k
            ∙ ap (newest key (xs ++ f ∷ []) k) long ∙ newest_skips key xs f k (λ e. other (sym e))
      ];
      earlier = λ p x at.
          let low : p < length xs = slice_get_within xs p x at in
          sym (get_or_append_left links (v ∷ []) 0 p (omega (arith, low, count))) ∙ h.earlier p x (pushed_before xs f p low ∙ at)
          ∙ newest_stays key xs f (key x) p (omega (arith, low));
      covered = λ p x at.
          let low : p < length xs = slice_get_within xs p x at in
          let same : length (set heads (key f) v) ≡ length heads = length-set heads (key f) v in
          let P : ℕ → Type 0 = λ n. key x < n in
          subst P (sym same) (h.covered p x (pushed_before xs f p low ∙ at));
    }

-- no elements, over heads that lead nowhere
pub chained_none : {X : Type 0} (key : X → ℕ) (heads : List ℕ) → ((k : ℕ) → get_or heads k 0 ≡ 0) → AreChainedBy key [] [] heads
chained_none {X} key heads empty = record {
  count = refl;
  newest_of = empty;
  earlier = λ p x at. absurd (none-some x (sym (slice_get_past {X = X} [] p (omega arith)) ∙ at));
  covered = λ p x at. absurd (none-some x (sym (slice_get_past {X = X} [] p (omega arith)) ∙ at));
}
