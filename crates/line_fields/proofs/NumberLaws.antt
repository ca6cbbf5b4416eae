-- A number has one spelling, and what is read as a number is that spelling.
use Rattle.std.proofs.Common.{◌≡◌, ℕ, zero, suc, ◌+◌, ◌*◌, ◌-◌, ◌^◌, ◌<◌, ◌≤◌, ◌==◌, ltb, ◌&&◌, Bool, true, false, cond, List, [], ◌∷◌, length, get_or, refl, sym, arith, rules, Option, Some, None}
use Rattle.std.specs.Prelude.{decimal}
use Rattle.std.specs.Str.{all_ascii_digits}
use Rattle.std.proofs.lemmas.Bool.{eqb-true, ltb-true, lt-ltb, and_parts, and_from}
use Rattle.std.proofs.lemmas.Bool.Decides.{nat_tests}
use Rattle.std.proofs.lemmas.Str.Parse.{IsNumeralModel, numerals_by_fold, tells_all_ascii_digits}
use Rattle.std.proofs.lemmas.Fmt.{decimal_digit, decimal_nonempty, first_decimal, digits_decimal, digits_value-decimal, decimal-digits_value}
use Rattle.byte_words.specs.Bytes.{is_digit}
use Rattle.line_fields.specs.Lines.{parts_fields, IsField}
use Rattle.line_fields.specs.Numbers.{digits_from, after_zero, long_number, if_short, short_number}

-- the number that digits stand for after a number
abbrev read_on : ℕ → List ℕ → ℕ
read_on n [] = n
read_on n (c ∷ cs) = read_on (n * 10 + (c - 48)) cs

own : IsNumeralModel (λ ds. all_ascii_digits ds ≡ true) (read_on 0)
own = numerals_by_fold _ tells_all_ascii_digits read_on (search rules)

-- more digits make no smaller number
grows : (n : ℕ) (bs : List ℕ) → n ≤ read_on n bs
grows n [] = omega arith
grows n (b ∷ bs) = let later = grows (n * 10 + (b - 48)) bs in omega arith

-- what is read of digits
record AreDigits (n : ℕ) (bs : List ℕ) (m : ℕ) : Type 0 where
  digits : all_ascii_digits bs ≡ true
  value : read_on n bs ≡ m
  below : m < 2 ^ 64

digits_back : (n : ℕ) (bs : List ℕ) (m : ℕ) → n < 2 ^ 64 → digits_from (2 ^ 64) n bs ≡ Some m → AreDigits n bs m
digits_back n [] m below e = let same : n ≡ m = cc in record { digits = refl; value = same; below = omega arith }
digits_back n (b ∷ bs) m below e =
    by (is_digit b && ltb (n * 10 + (b - 48)) (2 ^ 64)) refl e (λ h f. digits_back (n * 10 + (b - 48)) bs m h f)
  where
    by : (t : Bool) → (is_digit b && ltb (n * 10 + (b - 48)) (2 ^ 64)) ≡ t → cond t (digits_from (2 ^ 64) (n * 10 + (b - 48)) bs) None ≡ Some m
        → (n * 10 + (b - 48) < 2 ^ 64 → digits_from (2 ^ 64) (n * 10 + (b - 48)) bs ≡ Some m → AreDigits (n * 10 + (b - 48)) bs m)
        → AreDigits n (b ∷ bs) m
    by true t e later =
        let parts = and_parts _ _ t in
        let rest = later (ltb-true _ _ parts.1) e in
        record { digits = and_from _ _ parts.0 rest.digits; value = rest.value; below = rest.below }
    by false t e later = absurd cc

digits_again : (n : ℕ) (bs : List ℕ) → all_ascii_digits bs ≡ true → read_on n bs < 2 ^ 64 → digits_from (2 ^ 64) n bs ≡ Some (read_on n bs)
digits_again n [] digits below = refl
digits_again n (b ∷ bs) digits below =
    let parts = and_parts (is_digit b) (all_ascii_digits bs) digits in
    let small : n * 10 + (b - 48) < 2 ^ 64 = let g = grows (n * 10 + (b - 48)) bs in omega arith in
    rw (parts.0, lt-ltb _ _ small) (digits_again (n * 10 + (b - 48)) bs parts.1 below)

pub record IsSpelled (field : List ℕ) (n bound : ℕ) : Type 0 where
  pub spelled : field ≡ decimal n
  pub below : n < bound

pub long_back : (field : List ℕ) (n : ℕ) → long_number field ≡ Some n → IsSpelled field n (2 ^ 64)
long_back [] n e = absurd cc
long_back (b ∷ bs) n e = by (b == 48) refl e
  where
    zero_is : (bs : List ℕ) → b ≡ 48 → after_zero bs ≡ Some n → IsSpelled (b ∷ bs) n (2 ^ 64)
    zero_is [] is e = let none : 0 ≡ n = cc in record { spelled = rw (is, ← none) (sym (decimal_digit 0 (omega arith))); below = omega arith }
    zero_is (c ∷ cs) is e = absurd cc

    by : (t : Bool) → (b == 48) ≡ t → cond t (after_zero bs) (digits_from (2 ^ 64) 0 (b ∷ bs)) ≡ Some n → IsSpelled (b ∷ bs) n (2 ^ 64)
    by true t e = zero_is bs (eqb-true _ _ t) e
    by false t e =
        let found = digits_back 0 (b ∷ bs) n (omega arith) e in
        let other : get_or (b ∷ bs) 0 0 ≡ 48 → length (b ∷ bs) ≡ 1 = λ is. absurd (grind (arith, nat_tests, is, t)) in
        record {
          spelled = rw (← found.value) (sym (decimal-digits_value own (b ∷ bs) found.digits (omega arith) other (rw found.value found.below)));
          below = found.below;
        }

-- digits without a leading zero are read
digits_are_read : (ds : List ℕ) (n : ℕ) → all_ascii_digits ds ≡ true → read_on 0 ds ≡ n → n < 2 ^ 64 → 0 < length ds → 48 < get_or ds 0 0 → long_number ds ≡ Some n
digits_are_read [] n digits value below some first = absurd (omega arith)
digits_are_read (b ∷ bs) n digits value below some first =
    let other : (b == 48) ≡ false = grind (arith, nat_tests, first) in
    rw (other, ← value) (digits_again 0 (b ∷ bs) digits (rw value below))

pub long_again : (n : ℕ) → n < 2 ^ 64 → long_number (decimal n) ≡ Some n
long_again zero below = rw (decimal_digit 0 (omega arith)) refl
long_again (suc n) below =
    digits_are_read (decimal (suc n)) (suc n) (digits_decimal own (suc n) below) (digits_value-decimal own (suc n) below) below
    (decimal_nonempty (suc n) below) (first_decimal (suc n) (omega arith) below)

short_is : (o : Option ℕ) (n : ℕ) → if_short o ≡ Some n → (o ≡ Some n) × (n < 2 ^ 32)
short_is None n e = absurd cc
short_is (Some m) n e = by (ltb m (2 ^ 32)) refl e
  where
    by : (t : Bool) → ltb m (2 ^ 32) ≡ t → cond t (Some m) None ≡ Some n → (Some m ≡ Some n) × (n < 2 ^ 32)
    by true t e = let same : m ≡ n = cc in (e, rw (← same) (ltb-true _ _ t))
    by false t e = absurd cc

pub short_back : (field : List ℕ) (n : ℕ) → short_number field ≡ Some n → IsSpelled field n (2 ^ 32)
short_back field n e =
    let found = short_is (long_number field) n e in
    record { spelled = (long_back field n found.0).spelled; below = found.1 }

pub short_again : (n : ℕ) → n < 2 ^ 32 → short_number (decimal n) ≡ Some n
short_again n below = rw (long_again n (omega arith), lt-ltb n (2 ^ 32) below) refl

-- digits have no space and no line feed
digits_are_field : (ds : List ℕ) → all_ascii_digits ds ≡ true → IsField ds
digits_are_field [] digits = tt
digits_are_field (d ∷ ds) digits =
    let parts = and_parts (is_digit d) (all_ascii_digits ds) digits in
    (digit_parts_nothing d parts.0, digits_are_field ds parts.1)
  where
    digit_parts_nothing : (d : ℕ) → is_digit d ≡ true → parts_fields d ≡ false
    digit_parts_nothing d digit = grind (arith, nat_tests, digit)

pub decimal_is_field : (n : ℕ) → n < 2 ^ 64 → IsField (decimal n)
decimal_is_field n below = digits_are_field (decimal n) (digits_decimal own n below)
