-- Ascending numbers: where each stands, and how many there can be.
use Rattle.std.proofs.Common.{add-one, subst, ◌≡◌, ◌+◌, ◌-◌, ◌<◌, ◌≤◌, ℕ, zero, suc, List, length, get_or, Contains, ⊎_elim, ◌∙◌, arith}
use Rattle.std.specs.List.Sorted.{IsStrictlyIncreasing}
use Rattle.std.proofs.lemmas.Bool.{cases_lt}
use Rattle.std.proofs.lemmas.List.{get_or_default}
use Rattle.std.proofs.lemmas.List.Elements.{All-get_or}
use Rattle.model_members.specs.Inside.Sets.{AreElements}
use Rattle.model_members.proofs.SearchLaws.{never_fall}

-- each number is at least its place
pub rises : (numbers : List ℕ) → IsStrictlyIncreasing numbers → (k : ℕ) → k < length numbers → k ≤ get_or numbers k 0
rises numbers up zero within = omega arith
rises numbers up (suc k) within =
    let before = rises numbers up k (omega arith) in
    let step : get_or numbers k 0 < get_or numbers (k + 1) 0 = up k (omega arith) in
    let more : k + 1 ≤ get_or numbers (k + 1) 0 = omega arith in
    rw (← add-one k) more

-- this many places before the end, a number is this much below the size
stays_below : (size : ℕ) (numbers : List ℕ) → AreElements size numbers → (left k : ℕ) → k + left + 1 ≡ length numbers → get_or numbers k 0 + left < size
stays_below size numbers are zero k end =
    let last = All-get_or (λ x. x < size) numbers k 0 (omega arith) are.1 in
    omega arith
stays_below size numbers are (suc left) k end =
    let step : get_or numbers k 0 < get_or numbers (k + 1) 0 = are.0 k (omega arith) in
    let next = stays_below size numbers are left (k + 1) (omega arith) in
    omega arith

-- as many elements as the domain has are all of them
pub all_there : (size : ℕ) (numbers : List ℕ) → AreElements size numbers → length numbers ≡ size → (x : ℕ) → x < size → Contains numbers x
all_there size numbers are full x below =
    let within : x < length numbers = omega arith in
    let low = rises numbers are.0 x within in
    let high = stays_below size numbers are (size - (x + 1)) x (omega arith) in
    let is : get_or numbers x 0 ≡ x = omega arith in
    (x, within, get_or_default numbers x x 0 within ∙ is)

-- if they have each element, each stands at its own place
stands : (size : ℕ) (numbers : List ℕ) → IsStrictlyIncreasing numbers → ((x : ℕ) → x < size → Contains numbers x) → (n : ℕ) → n < size → (n < length numbers) × (get_or numbers n 0 ≡ n)
stands size numbers up each zero below =
    let (p, within, is) = each zero below in
    let at : get_or numbers p 0 ≡ 0 = get_or_default numbers p 0 0 within ∙ is in
    let low = rises numbers up p within in
    let first : p ≡ 0 = omega arith in
    (omega arith, subst (λ k. get_or numbers k 0 ≡ 0) first at)
stands size numbers up each (suc n) below =
    let (p, within, is) = each (suc n) below in
    let at : get_or numbers p 0 ≡ suc n = get_or_default numbers p 0 (suc n) within ∙ is in
    let low = rises numbers up p within in
    let before = stands size numbers up each n (omega arith) in
    let own : p ≡ suc n = ⊎_elim
    (λ (less : n < p). omega arith)
    (λ (past : p ≤ n). let fall = never_fall numbers up p n past before.0 in absurd (omega (arith, before.1)))
    (cases_lt n p) in
    (omega arith, subst (λ k. get_or numbers k 0 ≡ suc n) own at)

-- so there are as many as elements
long_enough : (size : ℕ) (numbers : List ℕ) → IsStrictlyIncreasing numbers → ((x : ℕ) → x < size → Contains numbers x) → size ≤ length numbers
long_enough zero numbers up each = omega arith
long_enough (suc n) numbers up each = let last = stands (suc n) numbers up each n (omega arith) in omega (arith, last.0)

-- and elements are never more
short_enough : (size : ℕ) (numbers : List ℕ) → AreElements size numbers → length numbers ≤ size
short_enough size numbers are = ⊎_elim
    (λ (some : 0 < length numbers). let first = stays_below size numbers are (length numbers - 1) 0 (omega arith) in omega arith)
    (λ (none : length numbers ≤ 0). omega arith)
    (cases_lt 0 (length numbers))

-- all elements are as many as the domain has
pub as_many : (size : ℕ) (numbers : List ℕ) → AreElements size numbers → ((x : ℕ) → x < size → Contains numbers x) → length numbers ≡ size
as_many size numbers are each =
    let long = long_enough size numbers are.0 each in
    let short = short_enough size numbers are in
    omega arith
