-- A header stays as it is where other bytes follow it.
use Rattle.std.proofs.Common.{◌≡◌, ◌≤◌, ℕ, Bool, true, false, List, [], ◌∷◌, ◌++◌, length, take, drop, refl, sym, ap, ap₂, subst, ◌∙◌, inl, inr, arith, length-append, cond}
use Rattle.std.specs.Prelude.{◌==◌}
use Rattle.std.specs.List.{AllByRecursion, concat}
use Rattle.std.proofs.lemmas.List.Folds.{concat-append}
use Rattle.std.proofs.Math.Seq.{take-append_seam, drop-append_seam}
use Rattle.sssom_head.specs.Lines.{lines_of, onto_line, hash_lines, header_lines, bytes_in, begins_with_hash, AreLines}
use Rattle.sssom_head.specs.Heads.{IsHeadOf}
use Rattle.byte_words.specs.Bytes.{is_line_feed}
use Rattle.text_names.specs.Prefixes.{Prefixes}

-- what is known of lines and header lines
pub record LinesAreKnown : Type 0 where
  pub form : (text : List ℕ) → AreLines (lines_of text)
  pub joined : (text : List ℕ) → concat (lines_of text) ≡ text
  pub alone : (lines : List (List ℕ)) → AreLines lines → lines_of (concat lines) ≡ lines
  pub front : (text : List ℕ) → concat (header_lines text) ≡ take (bytes_in (header_lines text)) text
  pub marked : (text : List ℕ) → AllByRecursion (λ line. begins_with_hash line ≡ true) (header_lines text)
  pub lines : (text : List ℕ) → lines_of text ≡ header_lines text ++ lines_of (drop (bytes_in (header_lines text)) text)

-- other lines may follow lines that some lines follow
other_lines : (before after others : List (List ℕ)) → AreLines (before ++ after) → 1 ≤ length after → AreLines others → AreLines (before ++ others)
other_lines [] after others are some good = good
other_lines (line ∷ before) after others (inl whole, are) some good = (inl whole, other_lines before after others are some good)
other_lines (line ∷ before) after others (inr last, are) some good = absurd (omega (arith, ap length last.last, length-append before after))

-- a byte before lines leaves some lines
onto_some : (b : ℕ) (lines : List (List ℕ)) → 1 ≤ length (onto_line b lines)
onto_some b [] = omega arith
onto_some b (line ∷ lines) = omega arith

-- some bytes have some lines
some_lines_by : (feed : Bool) (b : ℕ) (lines : List (List ℕ)) → 1 ≤ length (cond feed ((b ∷ []) ∷ lines) (onto_line b lines))
some_lines_by true b lines = omega arith
some_lines_by false b lines = onto_some b lines

-- and so for any bytes
some_lines : (text : List ℕ) → 1 ≤ length text → 1 ≤ length (lines_of text)
some_lines [] some = absurd (omega arith)
some_lines (b ∷ bytes) some = some_lines_by (is_line_feed b) b (lines_of bytes)

-- a byte other than # before lines leaves no header line
onto_unmarked : (b : ℕ) (lines : List (List ℕ)) → (b == 35) ≡ false → hash_lines (onto_line b lines) ≡ []
onto_unmarked b [] other = rw other refl
onto_unmarked b (line ∷ lines) other = rw other refl

-- the same where the byte may be a line feed
unmarked_by : (feed : Bool) (b : ℕ) (lines : List (List ℕ)) → (b == 35) ≡ false → hash_lines (cond feed ((b ∷ []) ∷ lines) (onto_line b lines)) ≡ []
unmarked_by true b lines other = rw other refl
unmarked_by false b lines other = onto_unmarked b lines other

-- bytes that do not begin with # have no header lines
unmarked : (text : List ℕ) → begins_with_hash text ≡ false → hash_lines (lines_of text) ≡ []
unmarked [] other = refl
unmarked (b ∷ bytes) other = unmarked_by (is_line_feed b) b (lines_of bytes) other

-- header lines are those up to the first that is none
hash_front : (before after : List (List ℕ)) → AllByRecursion (λ line. begins_with_hash line ≡ true) before → hash_lines after ≡ [] → hash_lines (before ++ after) ≡ before
hash_front [] after all none = none
hash_front (line ∷ before) after all none = rw all.0 (ap (λ (ls : List (List ℕ)). line ∷ ls) (hash_front before after all.1 none))

-- the header lines of a text whose header has these bytes
pub header_is : LinesAreKnown → (head rest : List ℕ) → length head ≡ bytes_in (header_lines (head ++ rest)) → concat (header_lines (head ++ rest)) ≡ head
header_is known head rest counted =
    let text = head ++ rest in
    known.front text ∙ ap (λ (n : ℕ). take n text) (sym counted) ∙ take-append_seam head rest

-- other bytes that do not begin with # leave the header lines as they are
pub header_again : LinesAreKnown → (head rest others : List ℕ) → length head ≡ bytes_in (header_lines (head ++ rest)) → 1 ≤ length rest
    → begins_with_hash others ≡ false → header_lines (head ++ others) ≡ header_lines (head ++ rest)
header_again known head rest others counted some other =
    let text = head ++ rest in
    let header = header_lines text in
    let after : drop (bytes_in header) text ≡ rest = ap (λ (n : ℕ). drop n text) (sym counted) ∙ drop-append_seam head rest in
    let lines : lines_of text ≡ header ++ lines_of rest = known.lines text ∙ ap (λ (t : List ℕ). header ++ lines_of t) after in
    let are : AreLines (header ++ lines_of rest) = subst (λ (ls : List (List ℕ)). AreLines ls) lines (known.form text) in
    let good = other_lines header (lines_of rest) (lines_of others) are (some_lines rest some) (known.form others) in
    let joined : concat (header ++ lines_of others) ≡ head ++ others =
    concat-append header (lines_of others) ∙ ap₂ (λ (a b : List ℕ). a ++ b) (header_is known head rest counted) (known.joined others) in
    let now : lines_of (head ++ others) ≡ header ++ lines_of others =
    ap (λ (t : List ℕ). lines_of t) (sym joined) ∙ known.alone (header ++ lines_of others) good in
    ap (λ (ls : List (List ℕ)). hash_lines ls) now ∙ hash_front header (lines_of others) (known.marked text) (unmarked others other)

-- what holds of the header holds of it then too
pub head_again : LinesAreKnown → (head rest others : List ℕ) (prefixes : Prefixes) → IsHeadOf (head ++ rest) (record { length = length head; prefixes = prefixes }) → 1 ≤ length rest
    → begins_with_hash others ≡ false → IsHeadOf (head ++ others) (record { length = length head; prefixes = prefixes })
head_again known head rest others prefixes is some other =
    let same = sym (header_again known head rest others is.counted some other) in
    record {
      place = is.place;
      entries = is.entries;
      sound = rw same at is.sound;
      counted = rw same at is.counted;
      prefixes = is.prefixes;
    }
