-- Lines and columns, counted byte by byte and character by character.
use Rattle.std.proofs.Common.{◌≡◌, ℕ, ◌+◌, ◌-◌, ◌/◌, ◌≤◌, ◌<◌, Bool, cond, ◌&&◌, List, [], ◌∷◌, ◌++◌, ⊎_elim, length, reverse, drop, refl, sym, ap, ◌∙◌, arith, lt-ltb, le-ltb}
use Rattle.std.specs.Prelude.{◌==◌, not, nat_le, nat_lt, count_by, IsUtf8}
use Rattle.std.specs.List.{prefix_len, after_last}
use Rattle.std.specs.Str.{chars, encode_utf8_all}
use Rattle.std.proofs.lemmas.Bool.{cond-true, cond-false, cases_lt}
use Rattle.std.proofs.lemmas.Bool.Decides.{nat_tests}
use Rattle.std.proofs.lemmas.List.{reverse-append, reverse-reverse, length-reverse, length-drop, drop_all}
use Rattle.std.proofs.lemmas.List.Sums.{sum_by-cons, prefix_len-le-length}
use Rattle.std.proofs.lemmas.Str.{encode_ascii, encodes-chars}
use lib.Utf8.{encode, next}
use Rattle.byte_words.specs.Bytes.{is_line_feed}
use Rattle.text_names.specs.Place.{in_64_bits, line_after, column_after}

-- the byte goes on with a character
abbrev pub is_tail : ℕ → Bool
is_tail b = nat_le 128 b && nat_lt b 192

-- the line after these bytes, where they begin on line n
abbrev pub line_from : ℕ → List ℕ → ℕ
line_from n [] = n
line_from n (b ∷ bs) = line_from (cond (b == 10) (in_64_bits (n + 1)) n) bs

-- the column after these bytes, where they begin at column n
abbrev pub column_from : ℕ → List ℕ → ℕ
column_from n [] = n
column_from n (b ∷ bs) = column_from (cond (b == 10) 1 (cond (is_tail b) n (in_64_bits (n + 1)))) bs

-- a character of two bytes
encode_two : (c : ℕ) → 128 ≤ c → c < 2048 → encode c ≡ (192 + c / 64) ∷ next c ∷ []
unfolding encode
encode_two c low high = cond-false _ _ _ (le-ltb c 128 low) ∙ cond-true _ _ _ (lt-ltb c 2048 high)

-- a character of three bytes
encode_three : (c : ℕ) → 2048 ≤ c → c < 65536 → encode c ≡ (224 + c / 4096) ∷ next (c / 64) ∷ next c ∷ []
unfolding encode
encode_three c low high = cond-false _ _ _ (le-ltb c 128 (omega arith)) ∙ cond-false _ _ _ (le-ltb c 2048 low) ∙ cond-true _ _ _ (lt-ltb c 65536 high)

-- a character of four bytes
encode_four : (c : ℕ) → 65536 ≤ c → encode c ≡ (240 + c / 262144) ∷ next (c / 4096) ∷ next (c / 64) ∷ next c ∷ []
unfolding encode
encode_four c low = cond-false _ _ _ (le-ltb c 128 (omega arith)) ∙ cond-false _ _ _ (le-ltb c 2048 (omega arith)) ∙ cond-false _ _ _ (le-ltb c 65536 low)

-- a count that goes up at a character's first byte and stays at its others
module _ (f : ℕ → List ℕ → ℕ) (more : ℕ → ℕ)
    (lead : (n b : ℕ) (bs : List ℕ) → 192 ≤ b → f n (b ∷ bs) ≡ f (more n) bs)
    (tail : (n c : ℕ) (bs : List ℕ) → f n (next c ∷ bs) ≡ f n bs) where
  -- such a count over a character of more than one byte
  long : (n c : ℕ) (bs : List ℕ) → 128 ≤ c → f n (encode c ++ bs) ≡ f (more n) bs
  long n c bs low =
      ⊎_elim
      (λ two. ap (λ (e : List ℕ). f n (e ++ bs)) (encode_two c low two) ∙ lead n (192 + c / 64) (next c ∷ bs) (omega arith) ∙ tail (more n) c bs)
      (λ high. ⊎_elim
      (λ three. ap (λ (e : List ℕ). f n (e ++ bs)) (encode_three c high three) ∙ lead n (224 + c / 4096) (next (c / 64) ∷ next c ∷ bs) (omega arith) ∙ tail (more n) (c / 64) (next c ∷ bs) ∙ tail (more n) c bs)
      (λ four. ap (λ (e : List ℕ). f n (e ++ bs)) (encode_four c four) ∙ lead n (240 + c / 262144) (next (c / 4096) ∷ next (c / 64) ∷ next c ∷ bs) (omega arith) ∙ tail (more n) (c / 4096) (next (c / 64) ∷ next c ∷ bs) ∙ tail (more n) (c / 64) (next c ∷ bs) ∙ tail (more n) c bs)
      (cases_lt c 65536))
      (cases_lt c 2048)

-- one byte
line_stays : (n b : ℕ) (bs : List ℕ) → 128 ≤ b → line_from n (b ∷ bs) ≡ line_from n bs
line_stays n b bs h = let e : cond (b == 10) (in_64_bits (n + 1)) n ≡ n = grind (arith, nat_tests) in ap (λ (m : ℕ). line_from m bs) e

-- a first byte goes one column on
column_lead : (n b : ℕ) (bs : List ℕ) → 192 ≤ b → column_from n (b ∷ bs) ≡ column_from (in_64_bits (n + 1)) bs
column_lead n b bs h =
    let e : cond (b == 10) 1 (cond (is_tail b) n (in_64_bits (n + 1))) ≡ in_64_bits (n + 1) = grind (arith, nat_tests) in
    ap (λ (m : ℕ). column_from m bs) e

-- a later byte stays in the column
column_tail : (n c : ℕ) (bs : List ℕ) → column_from n (next c ∷ bs) ≡ column_from n bs
column_tail n c bs =
    let low : next c < 192 = omega arith in
    let e : cond (next c == 10) 1 (cond (is_tail (next c)) n (in_64_bits (n + 1))) ≡ n = grind (arith, nat_tests) in
    ap (λ (m : ℕ). column_from m bs) e

-- one character
line_one : (n c : ℕ) (bs : List ℕ) → line_from n (encode c ++ bs) ≡ line_from (cond (c == 10) (in_64_bits (n + 1)) n) bs
line_one n c bs =
    ⊎_elim
    (λ low. ap (λ (e : List ℕ). line_from n (e ++ bs)) (encode_ascii c low))
    (λ high. let e : cond (c == 10) (in_64_bits (n + 1)) n ≡ n = grind (arith, nat_tests) in
    long line_from (λ m. m) (λ m b cs h. line_stays m b cs (omega arith)) (λ m d cs. line_stays m (next d) cs (omega arith)) n c bs high ∙ ap (λ (m : ℕ). line_from m bs) (sym e))
    (cases_lt c 128)

-- columns over one character
column_one : (n c : ℕ) (bs : List ℕ) → column_from n (encode c ++ bs) ≡ column_from (cond (c == 10) 1 (in_64_bits (n + 1))) bs
column_one n c bs =
    ⊎_elim
    (λ low. let e : cond (c == 10) 1 (cond (is_tail c) n (in_64_bits (n + 1))) ≡ cond (c == 10) 1 (in_64_bits (n + 1)) = grind (arith, nat_tests) in
    ap (λ (e : List ℕ). column_from n (e ++ bs)) (encode_ascii c low) ∙ ap (λ (m : ℕ). column_from m bs) e)
    (λ high. let e : cond (c == 10) 1 (in_64_bits (n + 1)) ≡ in_64_bits (n + 1) = grind (arith, nat_tests) in
    long column_from (λ m. in_64_bits (m + 1)) column_lead column_tail n c bs high ∙ ap (λ (m : ℕ). column_from m bs) (sym e))
    (cases_lt c 128)

-- the column after these characters, which begin at column n
abbrev pub column_past : ℕ → List ℕ → ℕ
column_past n [] = n
column_past n (c ∷ cs) = column_past (cond (c == 10) 1 (n + 1)) cs

-- all characters, from the first of a line
line_all : (n : ℕ) (cs : List ℕ) → line_from (in_64_bits n) (encode_utf8_all cs) ≡ in_64_bits (n + count_by is_line_feed cs)
line_all n [] = ap in_64_bits (let e : n ≡ n + 0 = omega arith in e)
line_all n (c ∷ cs) =
    let step : cond (c == 10) (in_64_bits (in_64_bits n + 1)) (in_64_bits n) ≡ in_64_bits (cond (c == 10) (n + 1) n) = grind (arith, nat_tests) in
    let cons : count_by is_line_feed (c ∷ cs) ≡ cond (c == 10) 1 0 + count_by is_line_feed cs = sum_by-cons (λ x. cond (is_line_feed x) 1 0) c cs in
    let both : cond (c == 10) (n + 1) n ≡ n + cond (c == 10) 1 0 = grind (arith, nat_tests) in
    let rest : cond (c == 10) (n + 1) n + count_by is_line_feed cs ≡ n + count_by is_line_feed (c ∷ cs) = omega (arith, cons, both) in
    line_one (in_64_bits n) c (encode_utf8_all cs) ∙ ap (λ (m : ℕ). line_from m (encode_utf8_all cs)) step ∙ line_all (cond (c == 10) (n + 1) n) cs ∙ ap in_64_bits rest

-- columns over all characters
column_all : (n : ℕ) (cs : List ℕ) → column_from (in_64_bits n) (encode_utf8_all cs) ≡ in_64_bits (column_past n cs)
column_all n [] = refl
column_all n (c ∷ cs) =
    let step : cond (c == 10) 1 (in_64_bits (in_64_bits n + 1)) ≡ in_64_bits (cond (c == 10) 1 (n + 1)) = grind (arith, nat_tests) in
    column_one (in_64_bits n) c (encode_utf8_all cs) ∙ ap (λ (m : ℕ). column_from m (encode_utf8_all cs)) step ∙ column_all (cond (c == 10) 1 (n + 1)) cs

-- a column from the line's end back
column_push : (n : ℕ) (cs : List ℕ) (c : ℕ) → column_past n (cs ++ c ∷ []) ≡ cond (c == 10) 1 (column_past n cs + 1)
column_push n [] c = refl
column_push n (d ∷ cs) c = column_push (cond (d == 10) 1 (n + 1)) cs c

-- a column, from the end of the line back
column_back : (ds : List ℕ) → column_past 1 (reverse ds) ≡ 1 + prefix_len (λ c. not (is_line_feed c)) ds
column_back [] = refl
column_back (d ∷ ds) =
    let e : cond (d == 10) 1 ((1 + prefix_len (λ c. not (is_line_feed c)) ds) + 1) ≡ 1 + prefix_len (λ c. not (is_line_feed c)) (d ∷ ds) = grind (arith, nat_tests) in
    ap (λ (l : List ℕ). column_past 1 l) (reverse-append (d ∷ []) ds) ∙ column_push 1 (reverse ds) d ∙ ap (λ (m : ℕ). cond (d == 10) 1 (m + 1)) (column_back ds) ∙ e

-- how many elements follow the last that passes
length_after_last : (p : ℕ → Bool) (cs : List ℕ) → length (after_last p cs) ≡ prefix_len (λ c. not (p c)) (reverse cs)
length_after_last p cs =
    let short : prefix_len (λ c. not (p c)) (reverse cs) ≤ length cs = omega (arith, prefix_len-le-length (λ c. not (p c)) (reverse cs), length-reverse cs) in
    omega (arith, length-drop (length cs - prefix_len (λ c. not (p c)) (reverse cs)) cs)

-- the column after these characters
pub column_back_all : (cs : List ℕ) → column_past 1 cs ≡ column_after cs
column_back_all cs =
    ap (λ (l : List ℕ). column_past 1 l) (sym (reverse-reverse cs)) ∙ column_back (reverse cs) ∙ ap (λ (n : ℕ). 1 + n) (sym (length_after_last is_line_feed cs))

-- the bytes of a text give the place that its characters give
pub line_of_text : (bs : List ℕ) → IsUtf8 bs → line_from 1 bs ≡ in_64_bits (line_after (chars bs))
line_of_text bs text = ap (line_from 1) (sym (encodes-chars bs text)) ∙ line_all 1 (chars bs)

-- the column after the bytes of a text
pub column_of_text : (bs : List ℕ) → IsUtf8 bs → column_from 1 bs ≡ in_64_bits (column_after (chars bs))
column_of_text bs text = ap (column_from 1) (sym (encodes-chars bs text)) ∙ column_all 1 (chars bs) ∙ ap in_64_bits (column_back_all (chars bs))

-- a walk along a text that has come to its end
pub line_at_end : (bs : List ℕ) (n i : ℕ) → IsUtf8 bs → length bs ≤ i → line_from n (drop i bs) ≡ line_from 1 bs → n ≡ in_64_bits (line_after (chars bs))
line_at_end bs n i text end same = ap (line_from n) (sym (drop_all i bs end)) ∙ same ∙ line_of_text bs text

-- the column of a walk that has come to the end
pub column_at_end : (bs : List ℕ) (n i : ℕ) → IsUtf8 bs → length bs ≤ i → column_from n (drop i bs) ≡ column_from 1 bs → n ≡ in_64_bits (column_after (chars bs))
column_at_end bs n i text end same = ap (column_from n) (sym (drop_all i bs end)) ∙ same ∙ column_of_text bs text
