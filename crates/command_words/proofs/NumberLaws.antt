-- A number that is read digit by digit is the number that the digits write.
use Rattle.std.proofs.Common.{◌≡◌, ◌≢◌, ◌∙◌, ℕ, ◌+◌, ◌*◌, ◌-◌, ◌<◌, ◌≤◌, ◌&&◌, nat_le, nat_lt, leb, Bool, true, false, cond, List, [], ◌∷◌, length, refl, ap, sym, arith, rules, Option, Some, None}
use Rattle.std.specs.List.{list_all}
use Rattle.std.specs.Char.{digit_value}
use Rattle.std.specs.Str.Parse.{digits_value, digits_value_after}
use Rattle.std.proofs.lemmas.Bool.{and_parts, and_right, leb-true, leb-false, le-leb, lt-ltb}
use Rattle.std.proofs.lemmas.Str.{digit_value_digit}
use Rattle.byte_words.specs.Bytes.{is_digit}
use Rattle.command_words.specs.Words.{number_up_to}
use Rattle.command_words.specs.Inside.Numbers.{digits_after}

-- more digits make no smaller number
grows : (n : ℕ) (bs : List ℕ) → n ≤ digits_value_after 10 n bs
grows n [] = omega arith
grows n (b ∷ bs) = let later = grows (n * 10 + digit_value b) bs in omega arith

-- the number, if all bytes are digits and it is not greater than `most`
abbrev checked : ℕ → ℕ → List ℕ → Option ℕ
checked most n ds =
    cond (list_all is_digit ds && nat_le (digits_value_after 10 n ds) most) (Some (digits_value_after 10 n ds)) None

-- the value of a digit
digit_is : (b : ℕ) → is_digit b ≡ true → digit_value b ≡ b - 48
digit_is b e =
    let parts = and_parts (leb 48 b) (leb b 57) e in
    let same = digit_value_digit b (leb-true 48 b parts.0, leb-true b 57 parts.1) in
    omega arith

-- one digit more
more : (most n b : ℕ) (bs : List ℕ) → is_digit b ≡ true → checked most n (b ∷ bs) ≡ checked most (n * 10 + (b - 48)) bs
more most n b bs e =
    let value = digits_value_after 10 (n * 10 + digit_value b) bs in
    ap (λ (d : Bool). cond ((d && list_all is_digit bs) && nat_le value most) (Some value) None) e
    ∙ ap (λ (v : ℕ). checked most (n * 10 + v) bs) (digit_is b e)

-- past the greatest number there is none
past : (most n : ℕ) (bs : List ℕ) → nat_le n most ≡ false → checked most n bs ≡ None
past most n bs e =
    let over = leb-false n most e in
    let later = grows n bs in
    let test : nat_le (digits_value_after 10 n bs) most ≡ false = search (rules, arith) in
    ap (λ (d : Bool). cond d (Some (digits_value_after 10 n bs)) None) (and_right (list_all is_digit bs) _ test)

-- digit by digit
pub digits_checked : (most n : ℕ) (ds : List ℕ) → n ≤ most → digits_after most n ds ≡ checked most n ds
digits_checked most n [] le = rw (le-leb n most le) refl
digits_checked most n (b ∷ bs) le = by (is_digit b) refl (λ h. digits_checked most (n * 10 + (b - 48)) bs h)
  where
    next : (t : Bool) → is_digit b ≡ true → nat_le (n * 10 + (b - 48)) most ≡ t
        → (n * 10 + (b - 48) ≤ most → digits_after most (n * 10 + (b - 48)) bs ≡ checked most (n * 10 + (b - 48)) bs)
        → digits_after most n (b ∷ bs) ≡ checked most (n * 10 + (b - 48)) bs
    next true e t later = rw (e, t) (later (leb-true _ _ t))
    next false e t later = rw (e, t) (sym (past most (n * 10 + (b - 48)) bs t))

    by : (d : Bool) → is_digit b ≡ d
        → (n * 10 + (b - 48) ≤ most → digits_after most (n * 10 + (b - 48)) bs ≡ checked most (n * 10 + (b - 48)) bs)
        → digits_after most n (b ∷ bs) ≡ checked most n (b ∷ bs)
    by true e later = next (nat_le (n * 10 + (b - 48)) most) e refl later ∙ sym (more most n b bs e)
    by false e later = rw e refl

-- the four tests, where the middle ones are made first
tests_none : (a b c d : Bool) (v : ℕ) → cond (b && d) (Some v) None ≡ None → cond (a && b && c && d) (Some v) None ≡ None
tests_none false b c d v e = refl
tests_none true false c d v e = refl
tests_none true true false d v e = refl
tests_none true true true true v e = cc
tests_none true true true false v e = refl

tests_some : (b d : Bool) (v n : ℕ) → cond (b && d) (Some v) None ≡ Some n → (b ≡ true) × (d ≡ true) × (v ≡ n)
tests_some true true v n e = let same : v ≡ n = cc in (refl, refl, same)
tests_some true false v n e = absurd cc
tests_some false d v n e = absurd cc

-- a long text is no number
pub long_is_none : (most : ℕ) (text : List ℕ) → 9 < length text → number_up_to most text ≡ None
long_is_none most text long =
    let test : nat_le (length text) 9 ≡ false = search (rules, arith) in
    rw test refl

-- nor is a text whose digits give none
pub none_is_none : (most : ℕ) (text : List ℕ) → digits_after most 0 text ≡ None → number_up_to most text ≡ None
none_is_none most text e =
    let v = digits_value 10 text in
    tests_none (nat_le (length text) 9) (list_all is_digit text) (nat_lt 0 v) (nat_le v most) v (sym (digits_checked most 0 text (omega arith)) ∙ e)

-- nor is zero
pub zero_is_none : (most : ℕ) (text : List ℕ) → digits_after most 0 text ≡ Some 0 → number_up_to most text ≡ None
zero_is_none most text e =
    let v = digits_value 10 text in
    let is = tests_some (list_all is_digit text) (nat_le v most) v 0 (sym (digits_checked most 0 text (omega arith)) ∙ e) in
    rw is.2 (by (nat_le (length text) 9) (list_all is_digit text))
  where
    by : (a b : Bool) → cond {A = Option ℕ} (a && b && false && nat_le 0 most) (Some 0) None ≡ None
    by true true = refl
    by true false = refl
    by false b = refl

-- any other number is one
pub some_is_some : (most n : ℕ) (text : List ℕ) → length text ≤ 9 → digits_after most 0 text ≡ Some n → n ≢ 0 → number_up_to most text ≡ Some n
some_is_some most n text short e some =
    let v = digits_value 10 text in
    let is = tests_some (list_all is_digit text) (nat_le v most) v n (sym (digits_checked most 0 text (omega arith)) ∙ e) in
    let positive : 0 < v = omega arith in
    rw (le-leb (length text) 9 short, is.0, lt-ltb 0 v positive, is.1) (ap (λ (m : ℕ). Some m) is.2)
