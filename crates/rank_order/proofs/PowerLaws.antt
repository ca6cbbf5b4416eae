-- Whole numbers times powers of ten.
use Rattle.std.proofs.Common.{◌≡◌, ◌≢◌, ◌∙◌, ⊎_elim, ℕ, suc, ◌+◌, ◌-◌, ◌*◌, ◌%◌, ◌^◌, ◌<◌, ◌≤◌, Bool, true, false, List, [], ◌∷◌, ◌++◌, length, get_or, drop, refl, ap, sym, subst, arith, length-append, add-one, drop-cons}
use Rattle.std.proofs.Math.Nat.{pow-suc, one-le-pow, pow-le-pow_right, mul-le-mul_left, mul-le-mul_right, eq_of_mul-eq-mul_right}
use Rattle.std.proofs.lemmas.Bool.{cases_lt}
use Rattle.std.proofs.lemmas.Bool.Decides.{nat_tests}
use Rattle.std.proofs.lemmas.Nat.{pow-add}
use Rattle.std.specs.Prelude.{Option, Some, None, SomeIff, IfSome, IfNone}
use Rattle.rank_order.specs.Decimal.{AreDigits, is_digit, digits_value}
use Rattle.rank_order.specs.Inside.Scale.{IsScaled, IsTooFine, up_by, down_by}

-- a power of ten is not 0
pub ten_pos : (k : ℕ) → 1 ≤ 10 ^ k
ten_pos k = one-le-pow k 10 (omega arith)

-- the digits of two lists in a row
pub digits_value-append : (xs ys : List ℕ) → digits_value (xs ++ ys) ≡ digits_value xs * 10 ^ length ys + digits_value ys
digits_value-append [] ys = omega arith
digits_value-append (x ∷ xs) ys =
    let more : 10 ^ length (xs ++ ys) ≡ 10 ^ length xs * 10 ^ length ys = ap (λ (k : ℕ). 10 ^ k) (length-append xs ys) ∙ pow-add 10 (length xs) (length ys) in
    let rest = digits_value-append xs ys in
    grind (arith, more, rest)

-- a power of ten that is larger by one or more has a factor ten more
ten_split : (i j : ℕ) → i ≤ j → 10 ^ j ≡ 10 ^ (j - i) * 10 ^ i
ten_split i j le = let sum : j ≡ (j - i) + i = omega arith in ap (λ (k : ℕ). 10 ^ k) sum ∙ pow-add 10 (j - i) i

-- one more power of ten
ten_more : (i j : ℕ) → i < j → 10 ^ j ≡ 10 ^ (j - i - 1) * 10 * 10 ^ i
ten_more i j lt =
    let sum : j ≡ suc (j - i - 1) + i = omega arith in
    ap (λ (k : ℕ). 10 ^ k) sum ∙ pow-add 10 (suc (j - i - 1)) i ∙ ap (λ (k : ℕ). k * 10 ^ i) (pow-suc 10 (j - i - 1))

-- units with fewer zeros than the number has are the number with the rest of them
units_are : (p units up down : ℕ) → down ≤ up → units * 10 ^ down ≡ p * 10 ^ up → units ≡ p * 10 ^ (up - down)
units_are p units up down le e =
    let split = ten_split down up le in
    let product : units * 10 ^ down ≡ p * 10 ^ (up - down) * 10 ^ down = e ∙ ap (λ (k : ℕ). p * k) split ∙ grind arith in
    eq_of_mul-eq-mul_right (10 ^ down) (ten_pos down) units (p * 10 ^ (up - down)) product

-- units with more zeros make the number end in one
number_is : (p units up down : ℕ) → up < down → units * 10 ^ down ≡ p * 10 ^ up → p ≡ units * 10 ^ (down - up - 1) * 10
number_is p units up down lt e =
    let split = ten_more up down lt in
    let product : p * 10 ^ up ≡ units * 10 ^ (down - up - 1) * 10 * 10 ^ up = sym e ∙ ap (λ (k : ℕ). units * k) split ∙ grind arith in
    eq_of_mul-eq-mul_right (10 ^ up) (ten_pos up) p (units * 10 ^ (down - up - 1) * 10) product

-- a greater power is no less
no_less : (p k : ℕ) → p ≤ p * 10 ^ k
no_less p k = let h = mul-le-mul_left p (ten_pos k) in omega (arith, h)

-- a number past the most units that ends in no zero is too fine
pub fine_if_long : (p : ℕ) → p % 10 ≢ 0 → 10 ^ 36 < p → IsTooFine p
fine_if_long p last long up down units scaled = ⊎_elim
    (λ (lt : up < down). let e = number_is p units up down lt scaled.same in last (ap (λ (k : ℕ). k % 10) e ∙ omega arith))
    (λ (ge : down ≤ up). let e = units_are p units up down ge scaled.same in omega (arith, e, no_less p (up - down), scaled.most))
    (cases_lt up down)

-- a number that is too fine has many digits
fine_is_long : (p : ℕ) → IsTooFine p → 10 ^ 36 < p
fine_is_long p fine = ⊎_elim (λ (long : 10 ^ 36 < p). long) (λ (short : p ≤ 10 ^ 36). absurd (fine 0 0 p (record { same = refl; most = short }))) (cases_lt (10 ^ 36) p)

-- so is what more digits make of it
fine_more : (p d : ℕ) → d < 10 → IsTooFine p → IsTooFine (10 * p + d)
fine_more p d small fine up down units scaled = ⊎_elim
    (λ (lt : up < down).
    let e = number_is (10 * p + d) units up down lt scaled.same in
    let same : units * 10 ^ (down - up - 1) ≡ p * 10 ^ 0 = omega (arith, e) in
    fine 0 (down - up - 1) units (record { same = same; most = scaled.most }))
    (λ (ge : down ≤ up). let e = units_are (10 * p + d) units up down ge scaled.same in omega (arith, e, no_less (10 * p + d) (up - down), scaled.most, fine_is_long p fine))
    (cases_lt up down)

-- a digit is below ten
pub digit_below : (d : ℕ) → is_digit d ≡ true → d - 48 < 10
digit_below d e = grind (arith, nat_tests)

-- a digit before others
in_front : (p d n q r : ℕ) → r ≡ q * 10 → (10 * p + d) * q + n ≡ p * r + (d * q + n)
in_front p d n q r e = let h : p * r ≡ p * (q * 10) = ap (λ (k : ℕ). p * k) e in omega (arith, h)

-- one more digit
more_digits : (p d n : ℕ) (ds : List ℕ) → (10 * p + (d - 48)) * 10 ^ length ds + n ≡ p * 10 ^ length (d ∷ ds) + ((d - 48) * 10 ^ length ds + n)
more_digits p d n ds = in_front p (d - 48) n (10 ^ length ds) (10 ^ length (d ∷ ds)) (pow-suc 10 (length ds))

-- digits that are too fine stay so
pub fine_digits : (p : ℕ) (ds : List ℕ) → AreDigits ds → IsTooFine p → IsTooFine (p * 10 ^ length ds + digits_value ds)
fine_digits p [] digits fine = let e : p ≡ p * 10 ^ 0 + 0 = omega arith in subst IsTooFine e fine
fine_digits p (d ∷ ds) digits fine =
    subst IsTooFine (more_digits p d (digits_value ds) ds) (fine_digits (10 * p + (d - 48)) ds digits.1 (fine_more p (d - 48) (digit_below d digits.0) fine))

-- many zeros are too large, and few fit
pub large : (n z : ℕ) → 1 ≤ n → 36 < z → n * 10 ^ z ≤ 10 ^ 36 → ⊥
large n z some many le =
    let power : 10 ^ 37 ≤ 10 ^ z = pow-le-pow_right {n = 10} (omega arith) {i = 37} {j = z} (omega arith) in
    omega (arith, power, mul-le-mul_right (10 ^ z) some)

-- few zeros
pub few_zeros : (z : ℕ) → z ≤ 36 → 10 ^ z < 2 ^ 128
few_zeros z few = let power : 10 ^ z ≤ 10 ^ 36 = pow-le-pow_right {n = 10} (omega arith) {i = z} {j = 36} few in omega (arith, power)

-- a digit after zeros
pub zero_behind : (m z : ℕ) → m * 10 ^ (z + 1) ≡ 10 * (m * 10 ^ z)
zero_behind m z = let sum : z + 1 ≡ suc z = omega arith in ap (λ (k : ℕ). m * 10 ^ k) sum ∙ ap (λ (k : ℕ). m * k) (pow-suc 10 z) ∙ grind arith

-- a digit after others
pub digit_behind : (p d : ℕ) → 1 ≤ d → d < 10 → (10 * p + d) % 10 ≢ 0
digit_behind p d some small e = omega (arith, e)

-- a number that is too long for units
pub too_long : (m z d : ℕ) → 1 ≤ d → d < 10 → 10 ^ 36 < m * 10 ^ (z + 1) + d → IsTooFine (10 * (m * 10 ^ z) + d)
too_long m z d some small long = fine_if_long (10 * (m * 10 ^ z) + d) (digit_behind (m * 10 ^ z) d some small) (omega (arith, zero_behind m z, long))

-- a number below a power of ten
pub below : (a b : ℕ) → ¬ (a ≤ b) → b < a
below a b not_le = ⊎_elim (λ (lt : b < a). lt) (λ (le : a ≤ b). absurd (not_le le)) (cases_lt b a)

-- powers on both sides
with_both : (m z up : ℕ) → m * 10 ^ (z + up) ≡ m * 10 ^ z * 10 ^ up
with_both m z up = ap (λ (k : ℕ). m * k) (pow-add 10 z up) ∙ omega arith

-- the number is m with z zeros
pub scaled_none : (m z up down units : ℕ) → m % 10 ≢ 0 → z + up < down → IsScaled (m * 10 ^ z) up down units → ⊥
scaled_none m z up down units last lt scaled =
    let e = number_is m units (z + up) down lt (scaled.same ∙ sym (with_both m z up)) in
    last (ap (λ (k : ℕ). k % 10) e ∙ omega arith)

-- units that are found
pub scaled_found : (m z up down units : ℕ) → down ≤ z + up → units ≤ 10 ^ 36 → units ≡ m * 10 ^ (z + up - down) → IsScaled (m * 10 ^ z) up down units
scaled_found m z up down units le most e =
    let split : m * 10 ^ (z + up) ≡ m * (10 ^ (z + up - down) * 10 ^ down) = ap (λ (k : ℕ). m * k) (ten_split down (z + up) le) in
    let whole : units * 10 ^ down ≡ m * 10 ^ (z + up - down) * 10 ^ down = ap (λ (k : ℕ). k * 10 ^ down) e in
    record { same = whole ∙ omega arith ∙ sym split ∙ with_both m z up; most = most }

-- units that are the number, scaled
pub scaled_is : (m z up down units : ℕ) → down ≤ z + up → IsScaled (m * 10 ^ z) up down units → units ≡ m * 10 ^ (z + up - down)
scaled_is m z up down units le scaled = units_are m units (z + up) down le (scaled.same ∙ sym (with_both m z up))

-- units by the zeros of a number
pub scaled_by_zeros : (m z up down k : ℕ) (r : Option ℕ) → down ≤ z + up → k ≡ z + up - down → SomeIff r (m * 10 ^ k ≤ 10 ^ 36) (m * 10 ^ k) →
    IfSome r (IsScaled (m * 10 ^ z) up down) × IfNone r ((units : ℕ) → IsScaled (m * 10 ^ z) up down units → ⊥)
scaled_by_zeros m z up down k r le e h = by r (subst (λ (i : ℕ). SomeIff r (m * 10 ^ i ≤ 10 ^ 36) (m * 10 ^ i)) e h)
  where
    by : (r : Option ℕ) → SomeIff r (m * 10 ^ (z + up - down) ≤ 10 ^ 36) (m * 10 ^ (z + up - down)) →
        IfSome r (IsScaled (m * 10 ^ z) up down) × IfNone r ((units : ℕ) → IsScaled (m * 10 ^ z) up down units → ⊥)
    by None not_most = (tt, λ units scaled. not_most (subst (λ (k : ℕ). k ≤ 10 ^ 36) (scaled_is m z up down units le scaled) scaled.most))
    by (Some n) both = (scaled_found m z up down n le (subst (λ (k : ℕ). k ≤ 10 ^ 36) (sym both.1) both.0) both.1, tt)

-- the digit at a place, and those after it
front_of : (i : ℕ) (ds : List ℕ) → i < length ds → drop i ds ≡ get_or ds i 0 ∷ drop (i + 1) ds
front_of i ds l = rw (add-one, drop-cons ds i 0) refl

-- one more digit of a number
pub digits_step : (p more whole i : ℕ) (ds : List ℕ) → i < length ds → more ≡ 10 * p + (get_or ds i 0 - 48) →
    p * 10 ^ length (drop i ds) + digits_value (drop i ds) ≡ whole → more * 10 ^ length (drop (i + 1) ds) + digits_value (drop (i + 1) ds) ≡ whole
digits_step p more whole i ds l e same =
    let rest = drop (i + 1) ds in
    ap (λ (k : ℕ). k * 10 ^ length rest + digits_value rest) e
    ∙ more_digits p (get_or ds i 0) (digits_value rest) rest
    ∙ ap (λ (l : List ℕ). p * 10 ^ length l + digits_value l) (sym (front_of i ds l))
    ∙ same

-- the digits up to a place
pub digits_at : (i : ℕ) (ds : List ℕ) → i < length ds → AreDigits (drop i ds) → (is_digit (get_or ds i 0) ≡ true) × AreDigits (drop (i + 1) ds)
digits_at i ds l digits = subst AreDigits (front_of i ds l) digits

-- one more digit of a number that is too fine
pub fine_step : (p whole i : ℕ) (ds : List ℕ) → i < length ds → AreDigits (drop i ds) →
    p * 10 ^ length (drop i ds) + digits_value (drop i ds) ≡ whole → IsTooFine (10 * p + (get_or ds i 0 - 48)) → IsTooFine whole
fine_step p whole i ds l digits same fine =
    subst IsTooFine (digits_step p (10 * p + (get_or ds i 0 - 48)) whole i ds l refl same)
    (fine_digits (10 * p + (get_or ds i 0 - 48)) (drop (i + 1) ds) (digits_at i ds l digits).1 fine)

-- a number that goes on with more digits becomes no smaller
pub no_smaller : (p whole i : ℕ) (ds : List ℕ) → i < length ds → p * 10 ^ length (drop i ds) + digits_value (drop i ds) ≡ whole → 10 * p + (get_or ds i 0 - 48) ≤ whole
no_smaller p whole i ds l same =
    let more = 10 * p + (get_or ds i 0 - 48) in
    omega (arith, digits_step p more whole i ds l refl same, no_less more (length (drop (i + 1) ds)))

-- an exponent that raises a number far
pub scaled_far : (m z up down units : ℕ) → 1 ≤ m → down + 36 < z + up → IsScaled (m * 10 ^ z) up down units → ⊥
scaled_far m z up down units some far scaled =
    large m (z + up - down) some (omega arith) (subst (λ (k : ℕ). k ≤ 10 ^ 36) (scaled_is m z up down units (omega arith) scaled) scaled.most)

-- nothing stays nothing
pub scaled_nothing : (m z up down : ℕ) → m ≡ 0 → IsScaled (m * 10 ^ z) up down 0
scaled_nothing m z up down e = record { same = let h : m * 10 ^ z * 10 ^ up ≡ 0 = ap (λ (k : ℕ). k * 10 ^ z * 10 ^ up) e ∙ omega arith in omega (arith, h); most = omega arith }

-- a number has at least its first digits
at_least : (n : ℕ) → ¬ (n < 10 ^ 20) → 10 ^ 20 ≤ n
at_least n not_small = ⊎_elim (λ (lt : n < 10 ^ 20). absurd (not_small lt)) (λ (le : 10 ^ 20 ≤ n). le) (cases_lt n (10 ^ 20))

-- an exponent of 10 ^ 20 or more
pub far_none : (m z places : ℕ) (lowers : Bool) (exponent : List ℕ) → 1 ≤ m → m % 10 ≢ 0 → z < 2 ^ 64 → places < 2 ^ 63 → ¬ (digits_value exponent < 10 ^ 20) →
    (units : ℕ) → IsScaled (m * 10 ^ z) (up_by lowers exponent) (down_by places lowers exponent) units → ⊥
far_none m z places true exponent some last zeros few far = λ units. scaled_none m z 36 (places + digits_value exponent) units last (omega (arith, at_least (digits_value exponent) far))
far_none m z places false exponent some last zeros few far = λ units. scaled_far m z (36 + digits_value exponent) (places + 0) units some (omega (arith, at_least (digits_value exponent) far))

-- no units, where the exponent raises
pub none_at : (r : Option ℕ) (v size places : ℕ) (lowers : Bool) (exponent : List ℕ) → lowers ≡ false → digits_value exponent ≡ size →
    IfNone r ((units : ℕ) → IsScaled v (36 + size) places units → ⊥) →
    IfNone r ((units : ℕ) → IsScaled v (up_by lowers exponent) (down_by places lowers exponent) units → ⊥)
none_at (Some x) v size places lowers exponent e s h = tt
none_at None v size places lowers exponent e s h = λ units scaled.
    let raised = subst (λ (b : Bool). IsScaled v (up_by b exponent) (down_by places b exponent) units) e scaled in
    h units (record { same = let up = ap (λ (k : ℕ). v * 10 ^ (36 + k)) s in ap (λ (k : ℕ). units * 10 ^ k) (let z : places ≡ places + 0 = omega arith in z) ∙ raised.same ∙ up; most = raised.most })
