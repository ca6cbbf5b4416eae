-- A text is read as a decimal number exactly where it is spelled as that number.
use Rattle.std.proofs.Common.{◌≡◌, ◌∙◌, ℕ, ◌+◌, ◌≤◌, Bool, true, false, cond, ◌&&◌, List, [], ◌∷◌, ◌++◌, length, refl, ap, sym, subst, arith}
use Rattle.std.specs.Prelude.{Option, Some, None, ◌==◌}
use Rattle.std.proofs.lemmas.Bool.{and_parts, eqb-true}
use Rattle.std.proofs.lemmas.Bool.Decides.{nat_tests}
use Rattle.byte_words.specs.Lists.{BeginsWithout}
use Rattle.rank_order.specs.Decimal.{is_digit, AreDigits, is_exponent_letter, Sign, Exponent, Decimal, sign_text, fraction_text, exponent_text, decimal_text, fraction_digits, IsExponent, IsDecimal}
use Rattle.rank_order.specs.DecimalTexts.{front_digits, past_digits, fraction_in, past_fraction, are_digits, is_some_list, exponent_with, signed_in, exponent_in, decimal_with, decimal_of}
use Rattle.rank_order.proofs.DigitLaws.{are_front_digits}

-- no digit comes first
abbrev pub BeginsNoDigit : List ℕ → Type 0
BeginsNoDigit bytes = BeginsWithout is_digit bytes

-- digits at the front are read back
pub front_append : (digits rest : List ℕ) → AreDigits digits → BeginsNoDigit rest → front_digits (digits ++ rest) ≡ digits
front_append [] [] h k = refl
front_append [] (b ∷ bs) h k = ap (λ (d : Bool). cond d (b ∷ front_digits bs) []) k
front_append (b ∷ bs) rest h k = ap (λ (d : Bool). cond d (b ∷ front_digits (bs ++ rest)) []) h.0 ∙ ap (λ (l : List ℕ). b ∷ l) (front_append bs rest h.1 k)

-- what follows them is read back
pub past_append : (digits rest : List ℕ) → AreDigits digits → BeginsNoDigit rest → past_digits (digits ++ rest) ≡ rest
past_append [] [] h k = refl
past_append [] (b ∷ bs) h k = ap (λ (d : Bool). cond d (past_digits bs) (b ∷ bs)) k
past_append (b ∷ bs) rest h k = ap (λ (d : Bool). cond d (past_digits (bs ++ rest)) (b ∷ bs ++ rest)) h.0 ∙ past_append bs rest h.1 k

-- digits and what follows them are the text
pub parts_join : (text : List ℕ) → front_digits text ++ past_digits text ≡ text
parts_join [] = refl
parts_join (b ∷ bs) = by (is_digit b) (parts_join bs)
  where
    by : (d : Bool) → front_digits bs ++ past_digits bs ≡ bs → cond d (b ∷ front_digits bs) [] ++ cond d (past_digits bs) (b ∷ bs) ≡ b ∷ bs
    by true h = ap (λ (l : List ℕ). b ∷ l) h
    by false h = refl

-- the letter of an exponent is no digit
letter_no_digit : (b : ℕ) → is_exponent_letter b ≡ true → is_digit b ≡ false
letter_no_digit b e = grind (arith, nat_tests)

-- nor is it the point
letter_no_point : (b : ℕ) → is_exponent_letter b ≡ true → (b == 46) ≡ false
letter_no_point b e = grind (arith, nat_tests)

-- a digit is no sign
digit_no_sign : (b : ℕ) → is_digit b ≡ true → ((b == 43) ≡ false) × ((b == 45) ≡ false)
digit_no_sign b e = (grind (arith, nat_tests), grind (arith, nat_tests))

-- an exponent begins with no digit
exponent_no_digit : (e : Option Exponent) → IsExponent e → BeginsNoDigit (exponent_text e)
exponent_no_digit None h = tt
exponent_no_digit (Some e) h = letter_no_digit e.letter h.0

-- what follows the whole digits begins with no digit
fraction_no_digit : (f : Option (List ℕ)) (e : Option Exponent) → IsExponent e → BeginsNoDigit (fraction_text f ++ exponent_text e)
fraction_no_digit None e h = exponent_no_digit e h
fraction_no_digit (Some digits) e h = refl

-- digits pass the test
all_digits : (digits : List ℕ) → AreDigits digits → are_digits digits ≡ true
all_digits [] h = refl
all_digits (b ∷ bs) h = ap (λ (d : Bool). d && are_digits bs) h.0 ∙ all_digits bs h.1

-- what passes the test are digits
digits_all : (digits : List ℕ) → are_digits digits ≡ true → AreDigits digits
digits_all [] e = tt
digits_all (b ∷ bs) e = let both = and_parts (is_digit b) (are_digits bs) e in (both.0, digits_all bs both.1)

-- the fraction is read back, and what follows it
fraction_back : (f : Option (List ℕ)) (e : Option Exponent) → AreDigits (fraction_digits f) → IsExponent e →
    (fraction_in (fraction_text f ++ exponent_text e) ≡ f) × (past_fraction (fraction_text f ++ exponent_text e) ≡ exponent_text e)
fraction_back None None h k = (refl, refl)
fraction_back None (Some e) h k =
    let rest = sign_text e.sign ++ e.digits in
    let point = letter_no_point e.letter k.0 in
    (ap (λ (d : Bool). cond d (Some (front_digits rest)) None) point, ap (λ (d : Bool). cond d (past_digits rest) (e.letter ∷ rest)) point)
fraction_back (Some digits) e h k =
    let free = exponent_no_digit e k in
    (ap (λ (l : List ℕ). Some l) (front_append digits (exponent_text e) h free), past_append digits (exponent_text e) h free)

-- an exponent is read back, by its sign
exponent_with_back : (letter : ℕ) (sign : Sign) (digits : List ℕ) → AreDigits digits → 1 ≤ length digits →
    exponent_with letter sign digits ≡ Some (Some (record { letter = letter; sign = sign; digits = digits }))
exponent_with_back letter sign [] h k = absurd (omega arith)
exponent_with_back letter sign (b ∷ bs) h k =
    let e : Exponent = record { letter = letter; sign = sign; digits = b ∷ bs } in
    ap (λ (d : Bool). cond d (Some (Some e)) None) (all_digits (b ∷ bs) h)

-- a signed exponent is read back
signed_back : (letter : ℕ) (sign : Sign) (digits : List ℕ) → AreDigits digits → 1 ≤ length digits →
    signed_in letter (sign_text sign ++ digits) ≡ Some (Some (record { letter = letter; sign = sign; digits = digits }))
signed_back letter Sign.unsigned [] h k = absurd (omega arith)
signed_back letter Sign.unsigned (b ∷ bs) h k =
    let apart = digit_no_sign b h.0 in
    rw (apart.0, apart.1) (exponent_with_back letter Sign.unsigned (b ∷ bs) h k)
signed_back letter Sign.plus digits h k = exponent_with_back letter Sign.plus digits h k
signed_back letter Sign.minus digits h k = exponent_with_back letter Sign.minus digits h k

-- an exponent is read back
exponent_back : (e : Option Exponent) → IsExponent e → exponent_in (exponent_text e) ≡ Some e
exponent_back None h = refl
exponent_back (Some e) h =
    ap (λ (d : Bool). cond d (signed_in e.letter (sign_text e.sign ++ e.digits)) None) h.0 ∙ signed_back e.letter e.sign e.digits h.1 h.2

-- there is a digit
some_digits : (m n : ℕ) → 1 ≤ m + n → (m == 0 && n == 0) ≡ false
some_digits m n h = grind (arith, nat_tests)

-- a decimal number is made of its parts
with_back : (whole : List ℕ) (f : Option (List ℕ)) (e : Option Exponent) → 1 ≤ length whole + length (fraction_digits f) →
    decimal_with whole f (Some e) ≡ Some (record { whole = whole; fraction = f; exponent = e })
with_back whole f e h =
    let d : Decimal = record { whole = whole; fraction = f; exponent = e } in
    ap (λ (b : Bool). cond b None (Some d)) (some_digits (length whole) (length (fraction_digits f)) h)

-- a decimal number is read as it is spelled
pub reads_back : (d : Decimal) → IsDecimal d → decimal_of (decimal_text d) ≡ Some d
reads_back d h =
    let rest = fraction_text d.fraction ++ exponent_text d.exponent in
    let free = fraction_no_digit d.fraction d.exponent h.exponent in
    let whole = front_append d.whole rest h.whole free in
    let past = past_append d.whole rest h.whole free in
    let back = fraction_back d.fraction d.exponent h.fraction h.exponent in
    let fraction = ap fraction_in past ∙ back.0 in
    let exponent = ap (λ (l : List ℕ). exponent_in (past_fraction l)) past ∙ ap exponent_in back.1 ∙ exponent_back d.exponent h.exponent in
    ap (λ (l : List ℕ). decimal_with l (fraction_in (past_digits (d.whole ++ rest))) (exponent_in (past_fraction (past_digits (d.whole ++ rest))))) whole
    ∙ ap (λ (f : Option (List ℕ)). decimal_with d.whole f (exponent_in (past_fraction (past_digits (d.whole ++ rest))))) fraction
    ∙ ap (λ (e : Option (Option Exponent)). decimal_with d.whole d.fraction e) exponent
    ∙ with_back d.whole d.fraction d.exponent h.some

-- what is read is spelled so
fraction_is : (rest : List ℕ) → AreDigits (fraction_digits (fraction_in rest)) × (rest ≡ fraction_text (fraction_in rest) ++ past_fraction rest)
fraction_is [] = (tt, refl)
fraction_is (b ∷ bs) = by (b == 46) refl
  where
    by : (d : Bool) → (b == 46) ≡ d → AreDigits (fraction_digits (cond d (Some (front_digits bs)) None)) × (b ∷ bs ≡ fraction_text (cond d (Some (front_digits bs)) None) ++ cond d (past_digits bs) (b ∷ bs))
    by true e = (are_front_digits bs, ap (λ (k : ℕ). k ∷ bs) (eqb-true b 46 e) ∙ ap (λ (l : List ℕ). 46 ∷ l) (sym (parts_join bs)))
    by false e = (tt, refl)

-- a list that is not empty has an element
not_empty : (digits : List ℕ) → is_some_list digits ≡ true → 1 ≤ length digits
not_empty [] e = absurd cc
not_empty (b ∷ bs) e = omega arith

-- an exponent that is made has its form
exponent_with_is : (letter : ℕ) (sign : Sign) (digits : List ℕ) (e : Option Exponent) → is_exponent_letter letter ≡ true → exponent_with letter sign digits ≡ Some e →
    IsExponent e × (letter ∷ (sign_text sign ++ digits) ≡ exponent_text e)
exponent_with_is letter sign digits e l = by (is_some_list digits && are_digits digits) refl
  where
    whole : Exponent
    whole = record { letter = letter; sign = sign; digits = digits }

    by : (d : Bool) → (is_some_list digits && are_digits digits) ≡ d → cond d (Some (Some whole)) None ≡ Some e → IsExponent e × (letter ∷ (sign_text sign ++ digits) ≡ exponent_text e)
    by true t h =
        let both = and_parts (is_some_list digits) (are_digits digits) t in
        let same : Some whole ≡ e = cc in
        subst (λ (x : Option Exponent). IsExponent x × (letter ∷ (sign_text sign ++ digits) ≡ exponent_text x)) same ((l, digits_all digits both.1, not_empty digits both.0), refl)
    by false t h = absurd cc

-- a signed exponent that is read has its form
signed_is : (letter : ℕ) (rest : List ℕ) (e : Option Exponent) → is_exponent_letter letter ≡ true → signed_in letter rest ≡ Some e → IsExponent e × (letter ∷ rest ≡ exponent_text e)
signed_is letter [] e l h = absurd cc
signed_is letter (b ∷ bs) e l h = first (b == 43) refl h
  where
    second : (d : Bool) → (b == 45) ≡ d → cond d (exponent_with letter Sign.minus bs) (exponent_with letter Sign.unsigned (b ∷ bs)) ≡ Some e → IsExponent e × (letter ∷ b ∷ bs ≡ exponent_text e)
    second true t h =
        let r = exponent_with_is letter Sign.minus bs e l h in
        (r.0, ap (λ (k : ℕ). letter ∷ k ∷ bs) (eqb-true b 45 t) ∙ r.1)
    second false t h = exponent_with_is letter Sign.unsigned (b ∷ bs) e l h

    first : (d : Bool) → (b == 43) ≡ d → cond d (exponent_with letter Sign.plus bs) (cond (b == 45) (exponent_with letter Sign.minus bs) (exponent_with letter Sign.unsigned (b ∷ bs))) ≡ Some e → IsExponent e × (letter ∷ b ∷ bs ≡ exponent_text e)
    first true t h =
        let r = exponent_with_is letter Sign.plus bs e l h in
        (r.0, ap (λ (k : ℕ). letter ∷ k ∷ bs) (eqb-true b 43 t) ∙ r.1)
    first false t h = second (b == 45) refl h

-- an exponent that is read has its form
exponent_is : (rest : List ℕ) (e : Option Exponent) → exponent_in rest ≡ Some e → IsExponent e × (rest ≡ exponent_text e)
exponent_is [] e h = let same : None ≡ e = cc in subst (λ (x : Option Exponent). IsExponent x × ([] ≡ exponent_text x)) same (tt, refl)
exponent_is (b ∷ bs) e h = by (is_exponent_letter b) refl h
  where
    by : (d : Bool) → is_exponent_letter b ≡ d → cond d (signed_in b bs) None ≡ Some e → IsExponent e × (b ∷ bs ≡ exponent_text e)
    by true t h = signed_is b bs e t h
    by false t h = absurd cc

-- one of two lists is not empty
some_of_two : (m n : ℕ) → (m == 0 && n == 0) ≡ false → 1 ≤ m + n
some_of_two m n e = grind (arith, nat_tests)

-- a decimal number that is made has its form
with_is : (whole rest : List ℕ) (f : Option (List ℕ)) (o : Option (Option Exponent)) (d : Decimal) →
    AreDigits whole → AreDigits (fraction_digits f) → exponent_in rest ≡ o → decimal_with whole f o ≡ Some d →
    IsDecimal d × (whole ++ (fraction_text f ++ rest) ≡ decimal_text d)
with_is whole rest f None d w k r h = absurd cc
with_is whole rest f (Some e) d w k r h = by (length whole == 0 && length (fraction_digits f) == 0) refl h
  where
    read : Decimal
    read = record { whole = whole; fraction = f; exponent = e }

    by : (t : Bool) → (length whole == 0 && length (fraction_digits f) == 0) ≡ t → cond t None (Some read) ≡ Some d → IsDecimal d × (whole ++ (fraction_text f ++ rest) ≡ decimal_text d)
    by true t h = absurd cc
    by false t h =
        let same : read ≡ d = cc in
        let exponent = exponent_is rest e r in
        subst (λ (x : Decimal). IsDecimal x × (whole ++ (fraction_text f ++ rest) ≡ decimal_text x)) same (
          record { whole = w; fraction = k; some = some_of_two (length whole) (length (fraction_digits f)) t; exponent = exponent.0 },
          ap (λ (l : List ℕ). whole ++ (fraction_text f ++ l)) exponent.1,
        )

-- a decimal number that is read is spelled so
pub is_read : (text : List ℕ) (d : Decimal) → decimal_of text ≡ Some d → IsDecimal d × (text ≡ decimal_text d)
is_read text d h =
    let past = past_digits text in
    let fraction = fraction_is past in
    let r = with_is (front_digits text) (past_fraction past) (fraction_in past) (exponent_in (past_fraction past)) d (are_front_digits text) fraction.0 refl h in
    (r.0, sym (parts_join text) ∙ ap (λ (l : List ℕ). front_digits text ++ l) fraction.1 ∙ r.1)
