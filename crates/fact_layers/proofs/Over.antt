-- Look-ups in facts that lie over a base.
use Rattle.std.proofs.Common.{◌≡◌, ◌∙◌, ℕ, ◌+◌, ◌-◌, ◌≤◌, List, ◌++◌, length, Option, Some, None, sym, ap, subst, arith, inl, inr}
use Rattle.std.specs.Prelude.{slice_get}
use Rattle.std.proofs.lemmas.Bool.{cases_order}
use Rattle.std.proofs.lemmas.List.{length-map, length-append}
use Rattle.std.proofs.lemmas.Option.{slice_get_within}
use Rattle.fact_table.specs.declared.types.Fact.{Fact}
use Rattle.fact_table.specs.declared.types.Proved.{Proved}
use Rattle.fact_table.specs.Lists.{facts_of, IsAbsent}
use Rattle.fact_table.specs.Places.{IsFoundAt, IsLastBelow, IsClear}
use Rattle.fact_layers.proofs.Parts.{IsPart, at_left, at_right, last_part, last_in_front, last_in_part, clear_part, clear_past, shifted_some}
use Rattle.fact_layers.proofs.Copied.{facts_joined}

-- a fact of the top
pub top_found : (base top : List Proved) (fact : Fact) (start p : ℕ) → start ≡ length base → slice_get (facts_of top) p ≡ Some fact → slice_get (facts_of (base ++ top)) (start + p) ≡ Some fact
top_found base top fact start p is at =
    let begins : start + p ≡ length (facts_of base) + p = omega (arith, is, length-map base (λ (x : Proved). x.fact)) in
    ap (slice_get (facts_of (base ++ top))) begins ∙ ap (λ (xs : List Fact). slice_get xs (length (facts_of base) + p)) (facts_joined base top) ∙ at_right (facts_of base) (facts_of top) p ∙ at

-- a fact that is in neither
absent_both : (base top : List Proved) (fact : Fact) → IsAbsent (facts_of top) fact → IsAbsent (facts_of base) fact → IsAbsent (facts_of (base ++ top)) fact
absent_both base top fact absent none p at =
    let bs = facts_of base in
    let there : slice_get (bs ++ facts_of top) p ≡ Some fact = ap (λ (xs : List Fact). slice_get xs p) (sym (facts_joined base top)) ∙ at in
    let after : length bs ≤ p → ⊥ = λ above. let again : length bs + (p - length bs) ≡ p = omega (arith, above) in absent (p - length bs) (sym (at_right bs (facts_of top) (p - length bs)) ∙ ap (slice_get (bs ++ facts_of top)) again ∙ there) in
    elim (cases_order p (length bs)) [
      | inl same ↦ after (omega (arith, same))
      | inr (inl less) ↦ none p (sym (at_left bs (facts_of top) p less) ∙ there)
      | inr (inr more) ↦ after (omega (arith, more))
    ]

-- a fact that is not in the top
pub base_found : (base top : List Proved) (fact : Fact) (found : Option ℕ) → IsAbsent (facts_of top) fact → IsFoundAt (facts_of base) fact found → IsFoundAt (facts_of (base ++ top)) fact found
base_found base top fact None absent none = absent_both base top fact absent none
base_found base top fact (Some p) absent at = ap (λ (xs : List Fact). slice_get xs p) (facts_joined base top) ∙ at_left (facts_of base) (facts_of top) p (slice_get_within (facts_of base) p fact at) ∙ at

-- the last place below a bound that lies in the base
pub low_last : {K : Type 0} (key : Fact → K) (base top : List Proved) (k : K) (below : ℕ) (found : Option ℕ) → below ≤ length base → IsLastBelow key (facts_of base) k below found → IsLastBelow key (facts_of (base ++ top)) k below found
low_last key base top k below found low last =
    let P : List Fact → Type 0 = λ xs. IsLastBelow key xs k below found in
    subst P (sym (facts_joined base top)) (last_in_front key (facts_of base) (facts_of top) k below found last (λ q above under has. omega (arith, above, under, low, length-map base (λ (x : Proved). x.fact))))

-- the last place below a bound, in the top
pub top_last : {K : Type 0} (key : Fact → K) (base top : List Proved) (k : K) (below start p : ℕ) → start ≡ length base → IsLastBelow key (facts_of top) k (below - start) (Some p) → IsLastBelow key (facts_of (base ++ top)) k below (Some (start + p))
top_last key base top k below start p is last =
    let bs = facts_of base in
    let ts = facts_of top in
    let begins : length bs ≡ start = length-map base (λ (x : Proved). x.fact) ∙ sym is in
    let S : ℕ → Type 0 = λ n. IsPart (bs ++ ts) ts n in
    let part : IsPart (bs ++ ts) ts start = subst S begins (last_part bs ts) in
    let P : List Fact → Type 0 = λ xs. IsLastBelow key xs k below (Some (start + p)) in
    subst P (sym (facts_joined base top)) (last_in_part key (bs ++ ts) ts start k below (start + p) part (shifted_some (IsLastBelow key ts k (below - start)) start p last) (clear_past key (bs ++ ts) k (start + length ts) below (omega (arith, begins, length-append bs ts))))

-- the last place below a bound, if the top has none
pub base_last : {K : Type 0} (key : Fact → K) (base top : List Proved) (k : K) (below start : ℕ) (found : Option ℕ) → start ≡ length base → IsClear key (facts_of top) k 0 (below - start) → IsLastBelow key (facts_of base) k below found → IsLastBelow key (facts_of (base ++ top)) k below found
base_last key base top k below start found is none last =
    let bs = facts_of base in
    let ts = facts_of top in
    let begins : length bs ≡ start = length-map base (λ (x : Proved). x.fact) ∙ sym is in
    let S : ℕ → Type 0 = λ n. IsPart (bs ++ ts) ts n in
    let part : IsPart (bs ++ ts) ts start = subst S begins (last_part bs ts) in
    let C : ℕ → Type 0 = λ n. IsClear key (bs ++ ts) k n below in
    let after : IsClear key (bs ++ ts) k (length bs) below = subst C (sym begins) (clear_part key (bs ++ ts) ts start k below part none (clear_past key (bs ++ ts) k (start + length ts) below (omega (arith, begins, length-append bs ts)))) in
    let P : List Fact → Type 0 = λ xs. IsLastBelow key xs k below found in
    subst P (sym (facts_joined base top)) (last_in_front key bs ts k below found last after)
