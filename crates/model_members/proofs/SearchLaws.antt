-- Numbers that are sought in ascending lists.
use Rattle.std.proofs.Common.{◌≡◌, ◌∙◌, ℕ, ◌<◌, ◌≤◌, true, false, List, length, get_or, Contains, Ok, Err, sym, subst, arith, ⊎_elim}
use Rattle.std.specs.Prelude.{nat_eq}
use Rattle.std.specs.Ordering.{nat_cmp}
use Rattle.std.specs.List.Sorted.{IsStrictlyIncreasing, IsBinarySearchResult}
use Rattle.std.proofs.lemmas.Bool.{cases_Bool, cases_lt, eqb-true, eq-eqb}
use Rattle.std.proofs.lemmas.List.{get_or_default}
use Rattle.std.proofs.lemmas.List.Folds.{list_any_at}
use Rattle.std.proofs.lemmas.List.Kept.{AllPairs-from_increasing}
use Rattle.std.proofs.lemmas.List.Sorted.{searched}
use Rattle.std.proofs.lemmas.Map.Views.{Contains-from_any}
use Rattle.model_members.specs.Numbers.{has_number}

-- what is found is there
pub found : (numbers : List ℕ) (x : ℕ) → has_number numbers x ≡ true → Contains numbers x
found numbers x has = Contains-from_any eqb-true x numbers has

-- what is there is found
pub finds : (numbers : List ℕ) (x : ℕ) → Contains numbers x → has_number numbers x ≡ true
finds numbers x (k, within, same) = list_any_at (nat_eq x) numbers k x within (eq-eqb x (get_or numbers k x) (sym same))

-- what is not there is not found
pub finds_not : (numbers : List ℕ) (x : ℕ) → ¬ (Contains numbers x) → has_number numbers x ≡ false
finds_not numbers x absent = ⊎_elim (λ has. absurd (absent (found numbers x has))) (λ hasnt. hasnt) (cases_Bool (has_number numbers x))

-- ascending numbers never fall
pub never_fall : (numbers : List ℕ) → IsStrictlyIncreasing numbers → (i j : ℕ) → i ≤ j → j < length numbers → get_or numbers i 0 ≤ get_or numbers j 0
never_fall numbers up i j le within = ⊎_elim
    (λ less. let l = AllPairs-from_increasing numbers up i j 0 less within in omega arith)
    (λ past. let same : i ≡ j = omega arith in subst (λ k. get_or numbers i 0 ≤ get_or numbers k 0) same (omega arith))
    (cases_lt i j)

-- a search that answers a place has found the number
pub search_found : (numbers : List ℕ) (x place : ℕ) → IsStrictlyIncreasing numbers → IsBinarySearchResult (λ y. nat_cmp y x) numbers (Ok place) → true ≡ has_number numbers x
search_found numbers x place up position =
    let told = searched numbers x (Ok place) position (never_fall numbers up) in
    sym (finds numbers x (place, told.0, get_or_default numbers place x 0 told.0 ∙ told.1))

-- and one that answers where it would stand has not
pub search_missed : (numbers : List ℕ) (x place : ℕ) → IsStrictlyIncreasing numbers → IsBinarySearchResult (λ y. nat_cmp y x) numbers (Err place) → false ≡ has_number numbers x
search_missed numbers x place up position =
    let told = searched numbers x (Err place) position (never_fall numbers up) in
    sym (finds_not numbers x (λ there.
    let at : get_or numbers there.0 0 ≡ x = get_or_default numbers there.0 0 x there.1 ∙ there.2 in
    ⊎_elim
    (λ less. let l = told.1 there.0 less in omega arith)
    (λ past. let l = told.2 there.0 past there.1 in omega arith)
    (cases_lt there.0 place)))
