-- Different numbers below a bound are no more than the bound.
use Rattle.std.proofs.Common.{◌≡◌, ◌==◌, ◌+◌, ◌<◌, ◌≤◌, ℕ, Bool, false, cond, List, [], ◌∷◌, All, length, refl, sym, ap, eqb, arith}
use Rattle.std.specs.List.{AllByRecursion, IsDistinct}
use Rattle.std.proofs.lemmas.Bool.{ne_eqb, eq-eqb, eqb-true}
use Rattle.std.proofs.lemmas.List.Elements.{All-contains}
use Rattle.std.proofs.lemmas.List.Sums.{sum_by-cons}
use Rattle.std.proofs.lemmas.Map.Steps.{length-le_from_distinct_below}
use Rattle.std.proofs.lemmas.Map.Views.{Contains-from_any}
use Rattle.commit_lock.specs.Passes.{times, NoneTwice}

-- how often a number stands in a list with one more in front
times_cons : (x y : ℕ) (ys : List ℕ) → times x (y ∷ ys) ≡ cond {A = ℕ} (y == x) 1 0 + times x ys
times_cons x y ys = sum_by-cons (λ z. cond {A = ℕ} (z == x) 1 0) y ys

-- a number that stands there is counted
here_is_one : (x y : ℕ) → x ≡ y → cond {A = ℕ} (y == x) 1 0 ≡ 1
here_is_one x y same = ap (λ (b : Bool). cond {A = ℕ} b 1 0) (eq-eqb y x (sym same))

-- a number that isn't in a list differs from each of its numbers
apart : (x : ℕ) (ys : List ℕ) → times x ys ≡ 0 → AllByRecursion (λ y. eqb x y ≡ false) ys
apart x [] none = tt
apart x (y ∷ ys) none =
    let count = times_cons x y ys in
    let differs : x ≡ y → ⊥ = λ same. let one = here_is_one x y same in omega (arith, count, none, one) in
    let rest : times x ys ≡ 0 = omega (arith, count, none) in
    (ne_eqb x y differs, apart x ys rest)

-- numbers of which none stands twice differ from each other
distinct : (xs : List ℕ) → NoneTwice xs → IsDistinct eqb xs
unfolding IsDistinct
distinct [] once = tt
distinct (x ∷ xs) once =
    let count = times_cons x x xs in
    let one = here_is_one x x refl in
    let most = once x in
    let none : times x xs ≡ 0 = omega (arith, count, one, most) in
    let later : NoneTwice xs = λ y. let all = times_cons y x xs in let few = once y in omega (arith, all, few) in
    (apart x xs none, distinct xs later)

-- so there are few of them
pub few_numbers : (n : ℕ) (xs : List ℕ) → NoneTwice xs → All (λ x. x < n) xs → length xs ≤ n
few_numbers n xs once below = length-le_from_distinct_below xs n (distinct xs once)
    (λ q held. All-contains (λ x. x < n) xs q below (Contains-from_any {eq = eqb} eqb-true q xs held))
