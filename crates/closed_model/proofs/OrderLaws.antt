-- Lists that were sorted, and whose repeats were left out.
use Rattle.std.proofs.Common.{◌≡◌, ℕ, ◌&&◌, ◌==◌, ◌⊎◌, Bool, true, false, cond, List, [], ◌∷◌, Contains, refl, inl, inr, arith, ⊎_elim}
use Rattle.std.specs.Prelude.{nat_lt}
use Rattle.std.specs.List.{AllPairs, dedup}
use Rattle.std.specs.List.Sorted.{IsStrictlySortedBy, IsSorted}
use Rattle.std.specs.declared.cmp.Ordering.{Ordering}
use Rattle.std.specs.declared.cmp.Ordering.TheVariants.{Less, Equal, Greater}
use Rattle.std.specs.Ordering.{nat_cmp, ordering_then, eq_by_cmp, is_eq}
use Rattle.std.specs.Cmp.{IsTotalOrder, IsEquivalence, nat_cmp_total, nat_eq_equiv, on_total, then_total, on_equiv, and_equiv}
use Rattle.std.proofs.lemmas.Bool.{and_parts, eqb-true, ltb-true}
use Rattle.std.proofs.lemmas.List.Elements.{All-weaker, All-from_recursion}
use Rattle.std.proofs.lemmas.List.Kept.{AllPairs-cons, Contains-dedup, IsStrictlySortedBy-dedup}
use Rattle.closed_model.specs.Models.{ComesBefore}

-- two pairs are the same
abbrev pub same_pair : ℕ × ℕ → ℕ × ℕ → Bool
same_pair p q = (p.0 == q.0) && (p.1 == q.1)

-- which of two pairs comes first
abbrev pub pair_cmp : ℕ × ℕ → ℕ × ℕ → Ordering
pair_cmp p q = ordering_then (nat_cmp p.0 q.0) (nat_cmp p.1 q.1)

pairs_total : IsTotalOrder pair_cmp
pairs_total = then_total (on_total (λ (p : ℕ × ℕ). p.0) nat_cmp_total) (on_total (λ (p : ℕ × ℕ). p.1) nat_cmp_total)

pairs_equiv : IsEquivalence same_pair
pairs_equiv = and_equiv (on_equiv (λ (p : ℕ × ℕ). p.0) nat_eq_equiv) (on_equiv (λ (p : ℕ × ℕ). p.1) nat_eq_equiv)

-- pairs that pass as the same are one
one_pair : (p q : ℕ × ℕ) → same_pair p q ≡ true → p ≡ q
one_pair p q passed =
    let parts = and_parts (p.0 == q.0) (p.1 == q.1) passed in
    let first = eqb-true p.0 q.0 parts.0 in
    let second = eqb-true p.1 q.1 parts.1 in
    λ i. (first i, second i)

tied : (b d e f : Bool) → (b ≡ true → d ≡ true → ⊥) → (e ≡ true → f ≡ true → ⊥)
    → (d && f) ≡ is_eq (ordering_then (cond b Less (cond d Equal Greater)) (cond e Less (cond f Equal Greater)))
tied true true e f apart other = absurd (apart refl refl)
tied true false e f apart other = refl
tied false true true true apart other = absurd (other refl refl)
tied false true true false apart other = refl
tied false true false true apart other = refl
tied false true false false apart other = refl
tied false false e f apart other = refl

not_both : (a b : ℕ) → nat_lt a b ≡ true → (a == b) ≡ true → ⊥
not_both a b less same = let l = ltb-true a b less in let e = eqb-true a b same in omega arith

ties : (p q : ℕ × ℕ) → same_pair p q ≡ eq_by_cmp pair_cmp p q
ties p q = tied (nat_lt p.0 q.0) (p.0 == q.0) (nat_lt p.1 q.1) (p.1 == q.1) (not_both p.0 q.0) (not_both p.1 q.1)

-- what being less says
less_by : (b d e f : Bool) → ordering_then (cond b Less (cond d Equal Greater)) (cond e Less (cond f Equal Greater)) ≡ Less → (b ≡ true) ⊎ ((d ≡ true) × (e ≡ true))
less_by true d e f is = inl refl
less_by false true true f is = inr (refl, refl)
less_by false true false true is = absurd (cc)
less_by false true false false is = absurd (cc)
less_by false false e f is = absurd (cc)

comes : (p q : ℕ × ℕ) → pair_cmp p q ≡ Less → ComesBefore p q
comes p q is = ⊎_elim
    (λ first. inl (ltb-true p.0 q.0 first))
    (λ second. inr (eqb-true p.0 q.0 second.0, ltb-true p.1 q.1 second.1))
    (less_by (nat_lt p.0 q.0) (p.0 == q.0) (nat_lt p.1 q.1) (p.1 == q.1) is)

in_order : (pairs : List (ℕ × ℕ)) → IsStrictlySortedBy pair_cmp pairs → AllPairs ComesBefore pairs
unfolding IsStrictlySortedBy
in_order [] sorted = λ i j d less within. absurd (omega arith)
in_order (p ∷ pairs) sorted =
    AllPairs-cons ComesBefore p pairs
    (All-weaker (λ q. pair_cmp p q ≡ Less) (ComesBefore p) (comes p) pairs (All-from_recursion (λ q. pair_cmp p q ≡ Less) pairs sorted.0))
    (in_order pairs sorted.1)

-- sorted pairs without repeats ascend
pub AllPairs-dedup : (pairs : List (ℕ × ℕ)) → IsSorted pair_cmp pairs → AllPairs ComesBefore (dedup same_pair pairs)
AllPairs-dedup pairs sorted = in_order (dedup same_pair pairs) (IsStrictlySortedBy-dedup pairs_total ties pairs sorted)

-- and have the same pairs
pub Contains-dedup_pair : (pairs : List (ℕ × ℕ)) (p : ℕ × ℕ) → Contains pairs p → Contains (dedup same_pair pairs) p
Contains-dedup_pair pairs p there = Contains-dedup pairs_equiv one_pair pairs p there
