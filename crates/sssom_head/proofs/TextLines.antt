-- The lines of a text, its header lines, and trimmed texts.
use Rattle.std.proofs.Common.{◌≡◌, ◌∙◌, ℕ, suc, ◌+◌, ◌≤◌, Bool, true, false, cond, ◌&&◌, List, [], ◌∷◌, ◌++◌, ◌⊎◌, ⊎_elim, inl, inr, length, take, drop, refl, ap, sym, subst, arith, append-nil, length-append}
use Rattle.std.specs.Prelude.{◌==◌}
use Rattle.std.specs.List.{AllByRecursion, concat}
use Rattle.std.proofs.Math.Seq.{take-append_seam}
use Rattle.std.proofs.lemmas.Bool.{and_parts, eqb-true}
use Rattle.std.proofs.lemmas.Bool.Decides.{nat_tests}
use Rattle.std.proofs.lemmas.List.{drop_at, length-take-le}
use Rattle.std.proofs.lemmas.List.Folds.{concat-append}
use Rattle.sssom_head.specs.Lines.{onto_line, lines_of, begins_with_hash, hash_lines, header_lines, bytes_in, is_space_or_tab, trimmed_end, trimmed, HasNoLineFeed, IsWholeLine, IsOpenLine, AreLines, IsTrimmed}

-- a byte more at the front of lines
concat_onto : (b : ℕ) (lines : List (List ℕ)) → concat (onto_line b lines) ≡ b ∷ concat lines
concat_onto b [] = refl
concat_onto b (line ∷ lines) = refl

-- lines, one after another, are the text
pub joined : (text : List ℕ) → concat (lines_of text) ≡ text
joined [] = refl
joined (b ∷ bs) = by (b == 10) refl (joined bs)
  where
    by : (d : Bool) → (b == 10) ≡ d → concat (lines_of bs) ≡ bs → concat (cond d ((b ∷ []) ∷ lines_of bs) (onto_line b (lines_of bs))) ≡ b ∷ bs
    by true e rest = ap (λ (l : List ℕ). b ∷ l) rest
    by false e rest = concat_onto b (lines_of bs) ∙ ap (λ (l : List ℕ). b ∷ l) rest

-- a line feed is a line
one_feed : (b : ℕ) → (b == 10) ≡ true → IsWholeLine (b ∷ [])
one_feed b e = record { own = []; no_feed = tt; spelled = ap (λ (c : ℕ). c ∷ []) (eqb-true b 10 e) }

-- a byte that is no line feed, before a line
longer_line : (b : ℕ) (line : List ℕ) (later : List (List ℕ)) → (b == 10) ≡ false → IsWholeLine line ⊎ IsOpenLine line later → IsWholeLine (b ∷ line) ⊎ IsOpenLine (b ∷ line) later
longer_line b line later e is =
    ⊎_elim
    (λ whole. inl (record { own = b ∷ whole.own; no_feed = (e, whole.no_feed); spelled = ap (λ (l : List ℕ). b ∷ l) whole.spelled }))
    (λ last. inr (record { last = last.last; some = omega arith; no_feed = (e, last.no_feed) }))
    is

-- a byte more before lines
longer_lines : (b : ℕ) (lines : List (List ℕ)) → (b == 10) ≡ false → AreLines lines → AreLines (onto_line b lines)
longer_lines b [] e are = (inr (record { last = refl; some = omega arith; no_feed = (e, tt) }), tt)
longer_lines b (line ∷ lines) e are = (longer_line b line lines e are.0, are.1)

-- each line ends with its only line feed; the last may have none
pub lines_are : (text : List ℕ) → AreLines (lines_of text)
lines_are [] = tt
lines_are (b ∷ bs) = by (b == 10) refl (lines_are bs)
  where
    by : (d : Bool) → (b == 10) ≡ d → AreLines (lines_of bs) → AreLines (cond d ((b ∷ []) ∷ lines_of bs) (onto_line b (lines_of bs)))
    by true e rest = (inl (one_feed b e), rest)
    by false e rest = longer_lines b (lines_of bs) e rest

-- a whole line is the first of the text that it begins
first_whole : (own rest : List ℕ) → HasNoLineFeed own → lines_of ((own ++ 10 ∷ []) ++ rest) ≡ (own ++ 10 ∷ []) ∷ lines_of rest
first_whole [] rest none = refl
first_whole (b ∷ own) rest none = rw none.0 (ap (onto_line b) (first_whole own rest none.1))

-- a line without a line feed is the only one
only_open : (line : List ℕ) → 1 ≤ length line → HasNoLineFeed line → lines_of line ≡ line ∷ []
only_open [] some none = absurd (omega arith)
only_open (b ∷ []) some none = rw none.0 refl
only_open (b ∷ c ∷ line) some none = rw none.0 (ap (onto_line b) (only_open (c ∷ line) (omega arith) none.1))

-- no other lines are those of the text
pub lines_alone : (lines : List (List ℕ)) → AreLines lines → lines_of (concat lines) ≡ lines
lines_alone [] are = refl
lines_alone (line ∷ lines) are = by are.0 (lines_alone lines are.1)
  where
    by : IsWholeLine line ⊎ IsOpenLine line lines → lines_of (concat lines) ≡ lines → lines_of (line ++ concat lines) ≡ line ∷ lines
    by (inl whole) rest =
        ap (λ (l : List ℕ). lines_of (l ++ concat lines)) whole.spelled ∙ first_whole whole.own (concat lines) whole.no_feed
        ∙ ap (λ (l : List ℕ). l ∷ lines_of (concat lines)) (sym whole.spelled) ∙ ap (λ (ls : List (List ℕ)). line ∷ ls) rest
    by (inr last) rest =
        ap (λ (ls : List (List ℕ)). lines_of (line ++ concat ls)) last.last ∙ ap lines_of (append-nil line)
        ∙ only_open line last.some last.no_feed ∙ ap (λ (ls : List (List ℕ)). line ∷ ls) (sym last.last)

-- the lines after the header lines
abbrev other_lines : List (List ℕ) → List (List ℕ)
other_lines [] = []
other_lines (line ∷ lines) = cond (begins_with_hash line) (other_lines lines) (line ∷ lines)

-- header lines come first
split_lines : (lines : List (List ℕ)) → lines ≡ hash_lines lines ++ other_lines lines
split_lines [] = refl
split_lines (line ∷ lines) = by (begins_with_hash line) (split_lines lines)
  where
    by : (d : Bool) → lines ≡ hash_lines lines ++ other_lines lines → line ∷ lines ≡ cond d (line ∷ hash_lines lines) [] ++ cond d (other_lines lines) (line ∷ lines)
    by true rest = ap (λ (ls : List (List ℕ)). line ∷ ls) rest
    by false rest = refl

-- each header line begins with #
pub all_marked : (lines : List (List ℕ)) → AllByRecursion (λ line. begins_with_hash line ≡ true) (hash_lines lines)
all_marked [] = tt
all_marked (line ∷ lines) = by (begins_with_hash line) refl (all_marked lines)
  where
    by : (d : Bool) → begins_with_hash line ≡ d → AllByRecursion (λ line. begins_with_hash line ≡ true) (hash_lines lines) → AllByRecursion (λ line. begins_with_hash line ≡ true) (cond d (line ∷ hash_lines lines) [])
    by true e rest = (e, rest)
    by false e rest = tt

-- the other lines are lines
others_are : (lines : List (List ℕ)) → AreLines lines → AreLines (other_lines lines)
others_are [] are = tt
others_are (line ∷ lines) are = by (begins_with_hash line) (others_are lines are.1)
  where
    by : (d : Bool) → AreLines (other_lines lines) → AreLines (cond d (other_lines lines) (line ∷ lines))
    by true rest = rest
    by false rest = are

-- the bytes in lines
bytes_in_is : (lines : List (List ℕ)) → bytes_in lines ≡ length (concat lines)
bytes_in_is [] = refl
bytes_in_is (line ∷ lines) = omega (arith, bytes_in_is lines, length-append line (concat lines))

-- a line is not empty
line_has_bytes : (line : List ℕ) (later : List (List ℕ)) → IsWholeLine line ⊎ IsOpenLine line later → 1 ≤ length line
line_has_bytes line later is = ⊎_elim (λ whole. omega (arith, ap length whole.spelled, length-append whole.own (10 ∷ []))) (λ last. last.some) is

-- a line that is not empty begins the text
begins_alike : (line rest : List ℕ) → 1 ≤ length line → begins_with_hash (line ++ rest) ≡ begins_with_hash line
begins_alike [] rest some = absurd (omega arith)
begins_alike (b ∷ line) rest some = refl

-- the other lines do not begin with #
others_begin : (lines : List (List ℕ)) → AreLines lines → begins_with_hash (concat (other_lines lines)) ≡ false
others_begin [] are = refl
others_begin (line ∷ lines) are = by (begins_with_hash line) refl (others_begin lines are.1)
  where
    by : (d : Bool) → begins_with_hash line ≡ d → begins_with_hash (concat (other_lines lines)) ≡ false → begins_with_hash (concat (cond d (other_lines lines) (line ∷ lines))) ≡ false
    by true e rest = rest
    by false e rest = begins_alike line (concat lines) (line_has_bytes line lines are.0) ∙ e

module _ (text : List ℕ) where
  -- a text is its header and the rest
  split_text : text ≡ concat (header_lines text) ++ concat (other_lines (lines_of text))
  split_text = sym (joined text) ∙ ap concat (split_lines (lines_of text)) ∙ concat-append (header_lines text) (other_lines (lines_of text))

  -- the header is the front of the text
  pub header_front : concat (header_lines text) ≡ take (bytes_in (header_lines text)) text
  header_front =
      sym (take-append_seam (concat (header_lines text)) (concat (other_lines (lines_of text))))
      ∙ ap (λ (l : List ℕ). take (length (concat (header_lines text))) l) (sym split_text)
      ∙ ap (λ (n : ℕ). take n text) (sym (bytes_in_is (header_lines text)))

  -- the rest are the other lines
  after_header : drop (bytes_in (header_lines text)) text ≡ concat (other_lines (lines_of text))
  after_header =
      ap (drop (bytes_in (header_lines text))) split_text
      ∙ drop_at (concat (header_lines text)) (concat (other_lines (lines_of text))) (bytes_in (header_lines text)) (sym (bytes_in_is (header_lines text)))

  -- the rest does not begin with #
  pub rest_begins : begins_with_hash (drop (bytes_in (header_lines text)) text) ≡ false
  rest_begins = ap begins_with_hash after_header ∙ others_begin (lines_of text) (lines_are text)

  -- the rest has the other lines
  pub rest_lines : lines_of text ≡ header_lines text ++ lines_of (drop (bytes_in (header_lines text)) text)
  rest_lines =
      split_lines (lines_of text)
      ∙ ap (λ (ls : List (List ℕ)). header_lines text ++ ls)
      (sym (lines_alone (other_lines (lines_of text)) (others_are (lines_of text) (lines_are text))) ∙ ap lines_of (sym after_header))

-- trimmed texts
all_blank : (b : ℕ) (bs : List ℕ) → is_space_or_tab b ≡ true → trimmed_end bs ≡ 0 → IsTrimmed bs (trimmed bs) → IsTrimmed (b ∷ bs) []
all_blank b bs space short rest = record {
  blank = b ∷ bs;
  whole = refl;
  spaces = (space, subst (AllByRecursion (λ c. is_space_or_tab c ≡ true)) (sym (rest.whole ∙ ap (λ (n : ℕ). take n bs ++ rest.blank) short)) rest.spaces);
  last = λ before c e. absurd (omega (arith, ap length e, length-append before (c ∷ [])));
}

-- the end of a text is within it
end_within : (bs : List ℕ) → trimmed_end bs ≤ length bs
end_within [] = omega arith
end_within (b ∷ bs) = by (is_space_or_tab b && trimmed_end bs == 0) (end_within bs)
  where
    by : (d : Bool) → trimmed_end bs ≤ length bs → cond d 0 (1 + trimmed_end bs) ≤ length (b ∷ bs)
    by true rest = omega arith
    by false rest = omega arith

-- the first test fails
only_left : (v w : Bool) → w ≡ true → (v && w) ≡ false → v ≡ false
only_left true w one both = absurd (let e : true ≡ false = sym one ∙ both in cc)
only_left false w one both = refl

-- a byte before a trimmed text that is visible, or is itself
some_visible : (b : ℕ) (bs : List ℕ) → (is_space_or_tab b && trimmed_end bs == 0) ≡ false → IsTrimmed bs (trimmed bs) → IsTrimmed (b ∷ bs) (b ∷ trimmed bs)
some_visible b bs e rest = record {
  blank = rest.blank;
  whole = ap (λ (l : List ℕ). b ∷ l) rest.whole;
  spaces = rest.spaces;
  last = last_of;
}
  where
    last_of : (before : List ℕ) (c : ℕ) → b ∷ trimmed bs ≡ before ++ c ∷ [] → is_space_or_tab c ≡ false
    last_of [] c same =
        let first : b ≡ c = cc in
        let none : trimmed bs ≡ [] = cc in
        let size : length (trimmed bs) ≡ trimmed_end bs = length-take-le (trimmed_end bs) bs (end_within bs) in
        let zero_end : trimmed_end bs ≡ 0 = omega (arith, size, ap length none) in
        let test : (trimmed_end bs == 0) ≡ true = grind (arith, nat_tests) in
        let own : is_space_or_tab b ≡ false = only_left (is_space_or_tab b) (trimmed_end bs == 0) test e in
        ap is_space_or_tab (sym first) ∙ own
    last_of (d ∷ before) c same = let more : trimmed bs ≡ before ++ c ∷ [] = cc in rest.last before c more

-- a trimmed text
pub trims : (text : List ℕ) → IsTrimmed text (trimmed text)
trims [] = record { blank = []; whole = refl; spaces = tt; last = λ before b e. absurd (omega (arith, ap length e, length-append before (b ∷ []))) }
trims (b ∷ bs) = by (is_space_or_tab b && trimmed_end bs == 0) refl (trims bs)
  where
    by : (d : Bool) → (is_space_or_tab b && trimmed_end bs == 0) ≡ d → IsTrimmed bs (trimmed bs) → IsTrimmed (b ∷ bs) (take (cond d 0 (1 + trimmed_end bs)) (b ∷ bs))
    by true e rest = let both = and_parts (is_space_or_tab b) (trimmed_end bs == 0) e in
        let short : trimmed_end bs ≡ 0 = grind (arith, nat_tests, both.1) in all_blank b bs both.0 short rest
    by false e rest = subst (λ (n : ℕ). IsTrimmed (b ∷ bs) (take n (b ∷ bs))) (let k : suc (trimmed_end bs) ≡ 1 + trimmed_end bs = omega arith in k) (some_visible b bs e rest)
