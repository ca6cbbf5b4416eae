-- Loops over a list: what holds of the front so far, and of one element more.
use Rattle.std.proofs.Common.{◌≡◌, ◌+◌, ◌<◌, ◌≤◌, ℕ, List, ◌⊎◌, All, Contains, IsTrue, Bool, true, false, take, get_or, length, ⊎_elim, sym, subst, rules, arith}
use Rattle.std.proofs.Math.Seq.{take-suc}
use Rattle.std.proofs.Math.Numerals.{add-one}
use Rattle.std.proofs.Math.Nat.{eq-or-lt_of_le}
use Rattle.std.proofs.lemmas.List.{take_all}
use Rattle.std.proofs.lemmas.List.Elements.{All-push, Contains-push_cases}

-- what holds of the first elements and of the next holds of one element more
pub all_more : {X : Type 0} → (P : X → Type 0) (xs : List X) (k : ℕ) (d : X) → k < length xs → All P (take k xs) → P (get_or xs k d) → All P (take (k + 1) xs)
all_more P xs k d within all next = rw (add-one k) (subst (All P) (sym (take-suc xs k d within)) (All-push P (take k xs) (get_or xs k d) all next))

-- what holds of all elements so far holds of all, once all are passed
pub all_passed : {X : Type 0} → (P : X → Type 0) (xs : List X) (k : ℕ) → length xs ≤ k → All P (take k xs) → All P xs
all_passed P xs k end all = subst (All P) (take_all k xs end) all

-- an element of one more is one of those before or the next
pub one_more : {X : Type 0} → (xs : List X) (k : ℕ) (d x : X) → k < length xs → Contains (take (k + 1) xs) x → Contains (take k xs) x ⊎ (get_or xs k d ≡ x)
one_more xs k d x within h = Contains-push_cases (take k xs) (get_or xs k d) x (subst (λ ys. Contains ys x) (take-suc xs k d within) (subst (λ n. Contains (take n xs) x) (add-one k) h))

-- a number below the next one is at most this one
x_below : (x k : ℕ) → x < k + 1 → x ≤ k
x_below x k within = omega (arith, within)

-- what holds of the numbers so far and of the next holds of one number more
pub below_more : (P : ℕ → Type 0) (k : ℕ) → ((x : ℕ) → x < k → P x) → P k → (x : ℕ) → x < k + 1 → P x
below_more P k below next x within =
    ⊎_elim (λ same. subst P (sym same) next) (λ less. below x less) (eq-or-lt_of_le (x_below x k within))

-- a test that answered no did not answer yes
pub refuted : (r : Bool) → r ≡ false → IsTrue r → ⊥
refuted false denied said = search rules
refuted true denied said = search rules
