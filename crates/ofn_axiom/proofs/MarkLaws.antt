-- The place after some bytes and then others.
use Rattle.std.proofs.Common.{◌≡◌, ℕ, ◌+◌, ◌-◌, ◌≤◌, Bool, true, false, cond, List, [], ◌∷◌, ◌++◌, length, reverse, take, refl, ap, sym, ◌∙◌, subst, eqb, ◌&&◌, arith}
use Rattle.std.specs.Prelude.{nat_eq, nat_le, not, count_by, slice_range, IsUtf8}
use Rattle.std.specs.List.{prefix_len, after_last}
use Rattle.std.specs.Str.{chars}
use Rattle.std.proofs.lemmas.Bool.Decides.{nat_tests}
use Rattle.std.proofs.lemmas.List.{reverse-append, length-reverse, length-drop}
use Rattle.std.proofs.lemmas.List.Folds.{prefix_len-append}
use Rattle.std.proofs.lemmas.List.Sums.{sum_by-cons, sum_by-append, prefix_len-le-length}
use Rattle.std.proofs.lemmas.List.Sorted.{sum_by-IsPermutation, IsPermutation-reverse}
use Rattle.std.proofs.Math.Seq.{take-add, take-length}
use Rattle.std.proofs.lemmas.Str.{chars-append, IsUtf8-append, is_utf8-from_IsUtf8}
use Rattle.ofn_heads.specs.Names.{piece, text_of}
use Rattle.byte_words.specs.Bytes.{is_line_feed}
use Rattle.text_names.specs.Place.{in_64_bits, line_after, column_after, place_after}
use Rattle.text_names.specs.declared.place.Place.{Place}
use Rattle.ofn_axiom.specs.declared.marks.Mark.{Mark}
use Rattle.ofn_axiom.specs.Taking.{place_at}
use Rattle.ofn_axiom.specs.Inside.Marks.{onward, IsMark}

-- no element passes where all are before the first that does
none_pass : (p : ℕ → Bool) (cs : List ℕ) → eqb (prefix_len (λ c. not (p c)) cs) (length cs) ≡ eqb (count_by p cs) 0
none_pass p [] = refl
none_pass p (c ∷ cs) = by (p c) refl (none_pass p cs)
  where
    by : (b : Bool) → p c ≡ b → eqb (prefix_len (λ x. not (p x)) cs) (length cs) ≡ eqb (count_by p cs) 0 → eqb (prefix_len (λ x. not (p x)) (c ∷ cs)) (length (c ∷ cs)) ≡ eqb (count_by p (c ∷ cs)) 0
    by true e later =
        let one : count_by p (c ∷ cs) ≡ 1 + count_by p cs = sum_by-cons (λ x. cond (p x) 1 0) c cs ∙ ap (λ (b : Bool). cond b 1 0 + count_by p cs) e in
        let stop : prefix_len (λ x. not (p x)) (c ∷ cs) ≡ 0 = rw e refl in
        grind (arith, nat_tests)
    by false e later =
        let same : count_by p (c ∷ cs) ≡ 0 + count_by p cs = sum_by-cons (λ x. cond (p x) 1 0) c cs ∙ ap (λ (b : Bool). cond b 1 0 + count_by p cs) e in
        let on : prefix_len (λ x. not (p x)) (c ∷ cs) ≡ 1 + prefix_len (λ x. not (p x)) cs = rw e refl in
        grind (arith, nat_tests)

-- how many characters follow the last line feed
behind : (cs : List ℕ) → length (after_last is_line_feed cs) ≡ prefix_len (λ c. not (is_line_feed c)) (reverse cs)
behind cs =
    let short : prefix_len (λ c. not (is_line_feed c)) (reverse cs) ≤ length cs = omega (arith, prefix_len-le-length (λ c. not (is_line_feed c)) (reverse cs), length-reverse cs) in
    omega (arith, short, length-drop (length cs - prefix_len (λ c. not (is_line_feed c)) (reverse cs)) cs)

-- line feeds read backwards
feeds_back : (cs : List ℕ) → count_by is_line_feed (reverse cs) ≡ count_by is_line_feed cs
feeds_back cs = sum_by-IsPermutation (λ x. cond (is_line_feed x) 1 0) cs (reverse cs) (IsPermutation-reverse cs)

-- the column after some characters and then others
column_onward : (xs ys : List ℕ) → column_after (xs ++ ys) ≡ cond (eqb (count_by is_line_feed ys) 0) (column_after xs + (column_after ys - 1)) (column_after ys)
column_onward xs ys =
    let q : ℕ → Bool = λ c. not (is_line_feed c) in
    let whole : length (after_last is_line_feed (xs ++ ys)) ≡ cond (eqb (prefix_len q (reverse ys)) (length (reverse ys))) (length (reverse ys) + prefix_len q (reverse xs)) (prefix_len q (reverse ys)) =
    behind (xs ++ ys) ∙ ap (prefix_len q) (reverse-append xs ys) ∙ prefix_len-append q (reverse ys) (reverse xs) in
    let test : eqb (prefix_len q (reverse ys)) (length (reverse ys)) ≡ eqb (count_by is_line_feed ys) 0 =
    none_pass is_line_feed (reverse ys) ∙ ap (λ (n : ℕ). eqb n 0) (feeds_back ys) in
    let one = behind xs in
    let other = behind ys in
    grind (arith, nat_tests)

-- the line after some characters and then others
line_onward : (xs ys : List ℕ) → line_after (xs ++ ys) ≡ line_after xs + (line_after ys - 1)
line_onward xs ys = omega (arith, sum_by-append (λ x. cond (is_line_feed x) 1 0) xs ys)

-- a place by its line and its column
abbrev place_with : ℕ → ℕ → Place
place_with line column = record { line = line; column = column }

same_place : (a b c d : ℕ) → a ≡ b → c ≡ d → place_with a c ≡ place_with b d
same_place a b c d e f = rw (e, f) refl

-- places of characters
abbrev place_of_chars : List ℕ → Place
place_of_chars cs = place_with (in_64_bits (line_after cs)) (in_64_bits (column_after cs))

chars_onward : (xs ys : List ℕ) → place_of_chars (xs ++ ys) ≡ onward (place_of_chars xs) (place_of_chars ys)
chars_onward xs ys = by (eqb (count_by is_line_feed ys) 0) refl (line_onward xs ys) (column_onward xs ys)
  where
    by : (b : Bool) → eqb (count_by is_line_feed ys) 0 ≡ b → line_after (xs ++ ys) ≡ line_after xs + (line_after ys - 1) → column_after (xs ++ ys) ≡ cond (eqb (count_by is_line_feed ys) 0) (column_after xs + (column_after ys - 1)) (column_after ys) → place_of_chars (xs ++ ys) ≡ onward (place_of_chars xs) (place_of_chars ys)
    by true e lines columns =
        let test : nat_eq (in_64_bits (line_after ys)) 1 ≡ true = grind (arith, nat_tests) in
        let line : in_64_bits (line_after (xs ++ ys)) ≡ in_64_bits (line_after xs) = grind (arith, nat_tests) in
        let column : in_64_bits (column_after (xs ++ ys)) ≡ in_64_bits (in_64_bits (column_after xs) + (in_64_bits (column_after ys) - 1)) = grind (arith, nat_tests) in
        rw test (same_place _ _ _ _ line column)
    by false e lines columns =
        let test : nat_eq (in_64_bits (line_after ys)) 1 ≡ false = grind (arith, nat_tests) in
        let line : in_64_bits (line_after (xs ++ ys)) ≡ in_64_bits (in_64_bits (line_after xs) + (in_64_bits (line_after ys) - 1)) = grind (arith, nat_tests) in
        let column : in_64_bits (column_after (xs ++ ys)) ≡ in_64_bits (column_after ys) = grind (arith, nat_tests) in
        rw test (same_place _ _ _ _ line column)

-- the place after some bytes of a text and then others
place_onward : (before after : List ℕ) → IsUtf8 before → place_after (before ++ after) ≡ onward (place_after before) (place_after after)
place_onward before after utf8 = ap place_of_chars (chars-append before after utf8) ∙ chars_onward (chars before) (chars after)

-- a front that is UTF-8 is taken whole
piece_of_front : (text : List ℕ) (at : ℕ) → at ≤ length text → IsUtf8 (take at text) → piece text 0 at ≡ take at text
unfolding text_of
piece_of_front text at within utf8 =
    let test : (nat_le 0 at && nat_le at (length text)) ≡ true = grind (arith, nat_tests) in
    let all : at - 0 ≡ at = omega arith in
    let slice : slice_range text 0 at ≡ take at text = ap (λ (n : ℕ). take n text) all in
    ap (λ (b : Bool). cond b (text_of (slice_range text 0 at)) []) test
    ∙ ap text_of slice
    ∙ ap (λ (b : Bool). cond b (take at text) []) (is_utf8-from_IsUtf8 (take at text) utf8)

-- a mark goes on to a later offset
pub mark_goes_on : (text : List ℕ) (mark : Mark) (at : ℕ) (place : Place) → IsMark text mark → mark.at ≤ at → at ≤ length text → IsUtf8 (slice_range text mark.at at) →
    place ≡ onward mark.place (place_after (take (length (slice_range text mark.at at)) (slice_range text mark.at at))) →
    (place ≡ place_at text at) × IsMark text (record { at = at; place = place })
mark_goes_on text mark at place is after within utf8 onwards =
    let more = slice_range text mark.at at in
    let sum : mark.at + (at - mark.at) ≡ at = omega (arith, after) in
    let front : take at text ≡ take mark.at text ++ more = ap (λ (n : ℕ). take n text) (sym sum) ∙ take-add mark.at (at - mark.at) text in
    let whole : IsUtf8 (take at text) = subst IsUtf8 (sym front) (IsUtf8-append (take mark.at text) more is.utf8 utf8) in
    let there : place ≡ place_after (take at text) =
    onwards
    ∙ ap (λ (p : Place). onward p (place_after (take (length more) more))) is.there
    ∙ ap (λ (l : List ℕ). onward (place_after (take mark.at text)) (place_after l)) (take-length more)
    ∙ sym (place_onward (take mark.at text) more is.utf8)
    ∙ ap place_after (sym front) in
    (there ∙ ap place_after (sym (piece_of_front text at within whole)), record { within = within; utf8 = whole; there = there })
