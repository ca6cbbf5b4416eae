-- What searches in ascending pairs show.
use Rattle.std.proofs.Common.{◌≡◌, ◌+◌, ◌<◌, ◌≤◌, ℕ, false, List, get_or, Err, ⊎_elim, sym, subst, refl, ap, ◌∙◌, arith}
use Rattle.std.specs.List.{AllPairs}
use Rattle.std.specs.List.Sorted.{IsSortedBy, IsNonDecreasingBy, IsBinarySearchResult}
use Rattle.std.specs.Ordering.{nat_cmp, on, then_cmp, ordering_then, is_lt}
use Rattle.std.specs.declared.cmp.Ordering.{Ordering}
use Rattle.std.specs.declared.cmp.Ordering.TheVariants.{Equal}
use Rattle.std.specs.Cmp.{IsTotalOrder}
use Rattle.std.proofs.lemmas.Cmp.{nat_cmp_total, on_total, then_total, tied_itself}
use Rattle.std.proofs.lemmas.Bool.{cases_lt, le-ltb, eq-eqb, ne_eqb}
use Rattle.std.proofs.lemmas.List.Sorted.{searchable_from_sorted}
use Rattle.closed_model.specs.Models.{ComesBefore}
use Rattle.model_members.specs.Inside.Pairs.{Lead}

-- by the first number, and then by the second
abbrev order : ℕ × ℕ → ℕ × ℕ → Ordering
order = then_cmp (on (λ (p : ℕ × ℕ). p.0) nat_cmp) (on (λ (p : ℕ × ℕ). p.1) nat_cmp)

total : IsTotalOrder order
total = then_total (on_total (λ (p : ℕ × ℕ). p.0) nat_cmp_total) (on_total (λ (p : ℕ × ℕ). p.1) nat_cmp_total)

-- a number is not less than one that is no greater
no_less : (a b : ℕ) (o : Ordering) → b < a → is_lt (ordering_then (nat_cmp a b) o) ≡ false
no_less a b o less = rw (le-ltb a b (omega arith)) (rw (ne_eqb a b (λ e. omega arith)) refl)

-- what comes before is not behind
not_behind : (p q : ℕ × ℕ) → ComesBefore p q → is_lt (order q p) ≡ false
not_behind p q before = ⊎_elim
    (λ (first : p.0 < q.0). no_less q.0 p.0 (nat_cmp q.1 p.1) first)
    (λ (second : (p.0 ≡ q.0) × (p.1 < q.1)).
    rw (le-ltb q.0 p.0 (omega arith)) (rw (eq-eqb q.0 p.0 (sym second.0)) (rw (le-ltb q.1 p.1 (omega arith)) (rw (ne_eqb q.1 p.1 (λ e. omega arith)) refl))))
    before

sorted : (pairs : List (ℕ × ℕ)) → AllPairs ComesBefore pairs → IsSortedBy (λ p q. is_lt (order p q)) pairs
sorted pairs up = λ k d low within. not_behind (get_or pairs k d) (get_or pairs (k + 1) d) (up k (k + 1) d (omega arith) within)

-- what is not answered is not there
pub pair_missed : (pairs : List (ℕ × ℕ)) (from to place : ℕ) → AllPairs ComesBefore pairs → IsBinarySearchResult (λ p. order p (from, to)) pairs (Err place) → ¬ (Lead pairs from to)
pair_missed pairs from to place up position (k, within, is) =
    let parts = position (searchable_from_sorted total (λ (p : ℕ × ℕ). p) pairs (from, to) (sorted pairs up)) in
    let same : order (get_or pairs k (from, to)) (from, to) ≡ Equal = ap (λ p. order p (from, to)) is ∙ tied_itself total (from, to) in
    ⊎_elim
    (λ (less : k < place). let lower = parts.0 k (from, to) (omega arith) less in absurd (cc))
    (λ (past : place ≤ k). let higher = parts.1 k (from, to) past within in absurd (cc))
    (cases_lt k place)

-- ascending pairs never begin lower than those before
pub begin_in_order : (pairs : List (ℕ × ℕ)) → AllPairs ComesBefore pairs → IsNonDecreasingBy (λ p. p.0) pairs
begin_in_order pairs up i j d le within = ⊎_elim
    (λ (less : i < j). ⊎_elim
    (λ (first : (get_or pairs i d).0 < (get_or pairs j d).0). omega arith)
    (λ (second : ((get_or pairs i d).0 ≡ (get_or pairs j d).0) × ((get_or pairs i d).1 < (get_or pairs j d).1)). omega (arith, second.0))
    (up i j d less within))
    (λ (past : j ≤ i). let same : i ≡ j = omega arith in subst (λ k. (get_or pairs i d).0 ≤ (get_or pairs k d).0) same (omega arith))
    (cases_lt i j)
