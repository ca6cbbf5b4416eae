-- Of two offsets in a text the smaller one has the earlier place.
use Rattle.std.proofs.Common.{◌≡◌, ℕ, ◌+◌, ◌-◌, ◌^◌, ◌≤◌, ◌<◌, Bool, true, false, cond, List, [], ◌∷◌, ◌++◌, ◌⊎◌, ⊎_elim, inl, inr, length, take, drop, refl, sym, ap, subst, ◌∙◌, arith, length-append, length-drop}
use Rattle.std.specs.Prelude.{◌==◌, not, count_by, IsUtf8}
use Rattle.std.specs.List.{suffix_len}
use Rattle.std.specs.Str.{chars}
use Rattle.std.proofs.Math.Utf8.{encodes}
use Rattle.std.proofs.lemmas.Bool.{cases_lt}
use Rattle.std.proofs.lemmas.List.{append-nil, length-take-le, take-append-drop, take-take}
use Rattle.std.proofs.lemmas.List.Sums.{sum_by-cons, sum_by-append, count_by-le-length}
use Rattle.std.proofs.lemmas.Str.{chars-append, encodes-chars, length-le-encodes}
use Rattle.byte_words.specs.Bytes.{is_line_feed}
use Rattle.text_names.specs.Place.{in_64_bits, line_after, column_after, place_after, IsPlaceBefore}
use Rattle.text_names.proofs.PlaceLaws.{column_past, column_back_all}

-- columns over a front and what follows it
past_append : (n : ℕ) (front more : List ℕ) → column_past n (front ++ more) ≡ column_past (column_past n front) more
past_append n [] more = refl
past_append n (c ∷ front) more = past_append (cond (c == 10) 1 (n + 1)) front more

-- how many line feeds one more character has
feeds_cons : (c : ℕ) (more : List ℕ) → count_by is_line_feed (c ∷ more) ≡ cond (c == 10) 1 0 + count_by is_line_feed more
feeds_cons c more = sum_by-cons (λ x. cond (is_line_feed x) 1 0) c more

-- characters without a line feed count on
past_one_line : (n : ℕ) (more : List ℕ) → count_by is_line_feed more ≡ 0 → column_past n more ≡ n + length more
past_one_line n [] none = omega arith
past_one_line n (c ∷ more) none = by (c == 10) refl (past_one_line (n + 1) more)
  where
    by : (b : Bool) → (c == 10) ≡ b → (count_by is_line_feed more ≡ 0 → column_past (n + 1) more ≡ n + 1 + length more) → column_past (cond b 1 (n + 1)) more ≡ n + length (c ∷ more)
    by true e rest = let one : cond {A = ℕ} (c == 10) 1 0 ≡ 1 = ap (λ (b : Bool). let k : ℕ = cond b 1 0 in k) e in absurd (omega (arith, feeds_cons c more, one, none))
    by false e rest = let fewer : count_by is_line_feed more ≡ 0 = omega (arith, feeds_cons c more, none) in rest fewer ∙ omega arith

-- a column is no greater than the count of characters allows
column_within : (cs : List ℕ) → column_after cs ≤ 1 + length cs
column_within cs = omega (arith, length-drop (length cs - suffix_len (λ c. not (is_line_feed c)) cs) cs)

-- the place of a front stands before that of the front and more characters, while the numbers fit
module _ (front more : List ℕ) (some : 1 ≤ length more) (fits : length (front ++ more) < 2 ^ 63) where
  -- line feeds of the later characters add to the line
  lines : line_after (front ++ more) ≡ line_after front + count_by is_line_feed more
  lines = omega (arith, sum_by-append (λ x. cond (is_line_feed x) 1 0) front more)

  -- a line is no greater than the count of characters allows
  lines_within : line_after (front ++ more) ≤ 1 + length (front ++ more)
  lines_within = omega (arith, count_by-le-length is_line_feed (front ++ more))

  -- with a line feed among the later characters the line is greater
  later_line : 1 ≤ count_by is_line_feed more → in_64_bits (line_after front) < in_64_bits (line_after (front ++ more))
  later_line feeds = omega (arith, lines, lines_within)

  -- without one the later characters add to the column
  columns : count_by is_line_feed more ≡ 0 → column_after (front ++ more) ≡ column_after front + length more
  columns none =
      sym (column_back_all (front ++ more)) ∙ past_append 1 front more ∙ past_one_line (column_past 1 front) more none
      ∙ ap (λ (n : ℕ). n + length more) (column_back_all front)

  -- without a line feed the column is greater
  later_column : count_by is_line_feed more ≡ 0 → in_64_bits (column_after front) < in_64_bits (column_after (front ++ more))
  later_column none = omega (arith, columns none, column_within (front ++ more))

  -- and the line is the same
  same_line : count_by is_line_feed more ≡ 0 → in_64_bits (line_after front) ≡ in_64_bits (line_after (front ++ more))
  same_line none = ap in_64_bits (let e : line_after front ≡ line_after (front ++ more) = omega (arith, lines) in e)

  -- so the place of the front stands before
  place_before : (in_64_bits (line_after front) < in_64_bits (line_after (front ++ more)))
      ⊎ ((in_64_bits (line_after front) ≡ in_64_bits (line_after (front ++ more))) × (in_64_bits (column_after front) < in_64_bits (column_after (front ++ more))))
  place_before = ⊎_elim (λ (feeds : 0 < count_by is_line_feed more). inl (later_line (omega arith)))
      (λ (few : count_by is_line_feed more ≤ 0). let none : count_by is_line_feed more ≡ 0 = omega arith in inr (same_line none, later_column none))
      (cases_lt 0 (count_by is_line_feed more))

-- a text has no more characters than bytes
chars_within : (bs : List ℕ) → IsUtf8 bs → length (chars bs) ≤ length bs
chars_within bs utf8 = subst (λ (l : List ℕ). length (chars bs) ≤ length l) (encodes-chars bs utf8) (length-le-encodes (chars bs))

-- the characters of a longer front are those of the shorter one and some more
some_more : (bs more : List ℕ) → IsUtf8 bs → IsUtf8 (bs ++ more) → 1 ≤ length more → 1 ≤ length (chars more)
some_more bs more front whole some = by (chars more) refl
  where
    by : (cs : List ℕ) → chars more ≡ cs → 1 ≤ length cs
    by (c ∷ cs) e = omega arith
    by [] e =
        let same : chars (bs ++ more) ≡ chars bs = chars-append bs more front ∙ ap (λ (l : List ℕ). chars bs ++ l) e ∙ append-nil (chars bs) in
        let again : bs ++ more ≡ bs = sym (encodes-chars (bs ++ more) whole) ∙ ap encodes same ∙ encodes-chars bs front in
        absurd (omega (arith, ap length again, length-append bs more))

-- the same of bytes, by their characters
ascends_over : (bs more : List ℕ) → IsUtf8 bs → IsUtf8 (bs ++ more) → 1 ≤ length more → length (bs ++ more) < 2 ^ 63 → IsPlaceBefore (place_after bs) (place_after (bs ++ more))
ascends_over bs more front whole some fits =
    let split : chars (bs ++ more) ≡ chars bs ++ chars more = chars-append bs more front in
    let few : length (chars bs ++ chars more) < 2 ^ 63 = omega (arith, ap length split, chars_within (bs ++ more) whole) in
    let before = place_before (chars bs) (chars more) (some_more bs more front whole some) few in
    subst (λ (cs : List ℕ). (in_64_bits (line_after (chars bs)) < in_64_bits (line_after cs))
    ⊎ ((in_64_bits (line_after (chars bs)) ≡ in_64_bits (line_after cs)) × (in_64_bits (column_after (chars bs)) < in_64_bits (column_after cs)))) (sym split) before

-- the same of two offsets in a text
pub ascends : (text : List ℕ) (one other : ℕ) → one < other → other ≤ length text → length text < 2 ^ 63 → IsUtf8 (take one text) → IsUtf8 (take other text) →
    IsPlaceBefore (place_after (take one text)) (place_after (take other text))
ascends text one other less within fits front whole =
    let shorter : take one (take other text) ≡ take one text = take-take one other text (omega arith) in
    let split : take one text ++ drop one (take other text) ≡ take other text = ap (λ (l : List ℕ). l ++ drop one (take other text)) (sym shorter) ∙ take-append-drop one (take other text) in
    let size : length (take other text) ≡ other = length-take-le other text within in
    let more : length (drop one (take other text)) ≡ other - one = length-drop one (take other text) ∙ ap (λ (n : ℕ). n - one) size in
    subst (λ (l : List ℕ). IsPlaceBefore (place_after (take one text)) (place_after l)) split
    (ascends_over (take one text) (drop one (take other text)) front (subst IsUtf8 (sym split) whole) (omega arith) (omega (arith, ap length split)))
