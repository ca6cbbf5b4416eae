-- Where a gap or token ends, by its form.
use Rattle.std.proofs.Common.{◌≡◌, ◌≤◌, ℕ, ◌+◌, Bool, true, false, cond, List, [], ◌∷◌, ◌++◌, length, refl, ap, sym, ◌∙◌, arith, Option, Some, None, append_assoc, length-append, eqb-true}
use Rattle.std.specs.Prelude.{◌==◌, nat_lt, not, ◌&&◌, ◌||◌}
use Rattle.std.specs.List.{AllByRecursion, prefix_len}
use Rattle.byte_words.specs.Lists.{AllPassing, AllFailing, BeginsWithout}
use Rattle.ofn_lex.specs.Bytes.{ends_line, is_white_space, begins_gap, is_iri_byte, is_escaped}
use Rattle.ofn_lex.specs.Ends.{gap_end, comment_end, iri_end, quoted_end, escape_end, span_end}
use Rattle.ofn_lex.specs.Forms.{GapPart, white, comment, gap_bytes, EndsLine, IsGap, QuotedPart, plain, escaped, IsQuotedPart, quoted_bytes}

-- the bytes begin with some that pass the test, which end at m
pub record IsSpan (passes : ℕ → Bool) (n : ℕ) (bytes : List ℕ) (m : ℕ) : Type 0 where
  pub own : List ℕ
  pub rest : List ℕ
  pub all : AllPassing passes own
  pub whole : bytes ≡ own ++ rest
  pub ends : m ≡ n + length own

-- one byte more at the front
span_step : (passes : ℕ → Bool) (v : Bool) (n b : ℕ) (bs : List ℕ) → passes b ≡ v → IsSpan passes n bs (span_end passes n bs) → IsSpan passes n (b ∷ bs) (n + cond v (1 + prefix_len passes bs) 0)
span_step passes true n b bs e h = record { own = b ∷ h.own; rest = h.rest; all = (e, h.all); whole = ap (λ (l : List ℕ). b ∷ l) h.whole; ends = omega (arith, h.ends) }
span_step passes false n b bs e h = record { own = []; rest = b ∷ bs; all = tt; whole = refl; ends = omega arith }

-- the bytes that pass, from the front on
pub span_found : (passes : ℕ → Bool) (n : ℕ) (bs : List ℕ) → IsSpan passes n bs (span_end passes n bs)
span_found passes n [] = record { own = []; rest = []; all = tt; whole = refl; ends = omega arith }
span_found passes n (b ∷ bs) = span_step passes (passes b) n b bs refl (span_found passes n bs)

-- they go on as long as bytes pass
pub span_reaches : (passes : ℕ → Bool) (n : ℕ) (own rest : List ℕ) → AllPassing passes own → n + length own ≤ span_end passes n (own ++ rest)
span_reaches passes n [] rest all = omega arith
span_reaches passes n (b ∷ bs) rest all = let h = span_reaches passes n bs rest all.1 in rw all.0 (omega (arith, h))

-- the bytes after < go on to the > that ends at m
pub record IsIri (n : ℕ) (bytes : List ℕ) (m : ℕ) : Type 0 where
  pub inner : List ℕ
  pub rest : List ℕ
  pub all : AllPassing is_iri_byte inner
  pub whole : bytes ≡ inner ++ 62 ∷ rest
  pub ends : m ≡ n + length inner + 1

-- one byte of an IRI
iri_step : (c v : Bool) (n b m : ℕ) (bs : List ℕ) → (b == 62) ≡ c → is_iri_byte b ≡ v → (iri_end (n + 1) bs ≡ Some m → IsIri (n + 1) bs m) → cond c (Some (n + 1)) (cond v (iri_end (n + 1) bs) None) ≡ Some m → IsIri n (b ∷ bs) m
iri_step true v n b m bs c i h e =
    let ends : n + 1 ≡ m = cc in
    record { inner = []; rest = bs; all = tt; whole = ap (λ (x : ℕ). x ∷ bs) (eqb-true b 62 c); ends = omega arith }
iri_step false true n b m bs c i h e = let r = h e in record { inner = b ∷ r.inner; rest = r.rest; all = (i, r.all); whole = ap (λ (l : List ℕ). b ∷ l) r.whole; ends = omega (arith, r.ends) }
iri_step false false n b m bs c i h e = cc

-- an IRI that ends has its form
pub iri_found : (n m : ℕ) (bs : List ℕ) → iri_end n bs ≡ Some m → IsIri n bs m
iri_found n m [] e = cc
iri_found n m (b ∷ bs) e = iri_step (b == 62) (is_iri_byte b) n b m bs refl refl (iri_found (n + 1) m bs) e

-- a byte of an IRI does not end it
no_end : (u v w : Bool) → (u && not v && not w) ≡ true → w ≡ false
no_end true true true e = cc
no_end true true false e = refl
no_end true false true e = cc
no_end true false false e = refl
no_end false v true e = cc
no_end false v false e = refl

-- the end is further on
iri_again_step : (c v : Bool) (n m : ℕ) (o : Option ℕ) → c ≡ false → v ≡ true → o ≡ Some m → cond c (Some n) (cond v o None) ≡ Some m
iri_again_step true v n m o c w e = cc
iri_again_step false true n m o c w e = e
iri_again_step false false n m o c w e = cc

-- an IRI ends at its mark
pub iri_again : (n : ℕ) (inner rest : List ℕ) → AllPassing is_iri_byte inner → iri_end n (inner ++ 62 ∷ rest) ≡ Some (n + length inner + 1)
iri_again n [] rest all = ap Some (omega arith)
iri_again n (b ∷ bs) rest all =
    let other : (b == 62) ≡ false = no_end (nat_lt 32 b) (b == 60) (b == 62) all.0 in
    let h = iri_again (n + 1) bs rest all.1 in
    iri_again_step (b == 62) (is_iri_byte b) (n + 1) (n + length (b ∷ bs) + 1) (iri_end (n + 1) (bs ++ 62 ∷ rest)) other all.0 (h ∙ ap Some (omega arith))

-- the bytes after the first " go on to the " that ends at m
pub record IsQuoted (n : ℕ) (bytes : List ℕ) (m : ℕ) : Type 0 where
  pub parts : List QuotedPart
  pub rest : List ℕ
  pub all : AllByRecursion IsQuotedPart parts
  pub whole : bytes ≡ quoted_bytes parts ++ 34 ∷ rest
  pub ends : m ≡ n + length (quoted_bytes parts) + 1

-- the same after a \
record IsEscape (n : ℕ) (bytes : List ℕ) (m : ℕ) : Type 0 where
  byte : ℕ
  behind : List ℕ
  is : is_escaped byte ≡ true
  whole : bytes ≡ byte ∷ behind
  quoted : IsQuoted (n + 1) behind m

-- neither test passes
neither : (u v : Bool) → u ≡ false → v ≡ false → (u || v) ≡ false
neither true v e f = cc
neither false v e f = f

-- one byte of a quoted text
quoted_step : (c v : Bool) (n b m : ℕ) (bs : List ℕ) → (b == 34) ≡ c → (b == 92) ≡ v → (quoted_end (n + 1) bs ≡ Some m → IsQuoted (n + 1) bs m) → (escape_end (n + 1) bs ≡ Some m → IsEscape (n + 1) bs m) → cond c (Some (n + 1)) (cond v (escape_end (n + 1) bs) (quoted_end (n + 1) bs)) ≡ Some m → IsQuoted n (b ∷ bs) m
quoted_step true v n b m bs c i h g e =
    let ends : n + 1 ≡ m = cc in
    record { parts = []; rest = bs; all = tt; whole = ap (λ (x : ℕ). x ∷ bs) (eqb-true b 34 c); ends = omega arith }
quoted_step false true n b m bs c i h g e =
    let r = g e in
    record {
      parts = escaped r.byte ∷ r.quoted.parts;
      rest = r.quoted.rest;
      all = (r.is, r.quoted.all);
      whole = ap (λ (x : ℕ). x ∷ bs) (eqb-true b 92 i) ∙ ap (λ (l : List ℕ). 92 ∷ l) (r.whole ∙ ap (λ (l : List ℕ). r.byte ∷ l) r.quoted.whole);
      ends = omega (arith, r.quoted.ends);
    }
quoted_step false false n b m bs c i h g e =
    let r = h e in
    record { parts = plain b ∷ r.parts; rest = r.rest; all = (neither (b == 34) (b == 92) c i, r.all); whole = ap (λ (l : List ℕ). b ∷ l) r.whole; ends = omega (arith, r.ends) }

-- one byte after a backslash
escape_step : (v : Bool) (n b m : ℕ) (bs : List ℕ) → is_escaped b ≡ v → (quoted_end (n + 1) bs ≡ Some m → IsQuoted (n + 1) bs m) → cond v (quoted_end (n + 1) bs) None ≡ Some m → IsEscape n (b ∷ bs) m
escape_step true n b m bs i h e = record { byte = b; behind = bs; is = i; whole = refl; quoted = h e }
escape_step false n b m bs i h e = cc

mutual
  -- a quoted text that ends has its form
  pub quoted_found : (n m : ℕ) (bs : List ℕ) → quoted_end n bs ≡ Some m → IsQuoted n bs m
  quoted_found n m [] e = cc
  quoted_found n m (b ∷ bs) e = quoted_step (b == 34) (b == 92) n b m bs refl refl (quoted_found (n + 1) m bs) (escape_found (n + 1) m bs) e

  -- and so has what follows a backslash
  escape_found : (n m : ℕ) (bs : List ℕ) → escape_end n bs ≡ Some m → IsEscape n bs m
  escape_found n m [] e = cc
  escape_found n m (b ∷ bs) e = escape_step (is_escaped b) n b m bs refl (quoted_found (n + 1) m bs) e

-- the end is further on
quoted_again_step : (c v : Bool) (m : ℕ) (x y z : Option ℕ) → (c || v) ≡ false → z ≡ Some m → cond c x (cond v y z) ≡ Some m
quoted_again_step true v m x y z c e = cc
quoted_again_step false true m x y z c e = cc
quoted_again_step false false m x y z c e = e

-- a quoted text ends at its mark
pub quoted_again : (n : ℕ) (parts : List QuotedPart) (rest : List ℕ) → AllByRecursion IsQuotedPart parts → quoted_end n (quoted_bytes parts ++ 34 ∷ rest) ≡ Some (n + length (quoted_bytes parts) + 1)
quoted_again n [] rest all = ap Some (omega arith)
quoted_again n (plain b ∷ parts) rest all =
    let h = quoted_again (n + 1) parts rest all.1 in
    let behind = quoted_bytes parts ++ 34 ∷ rest in
    quoted_again_step (b == 34) (b == 92) (n + length (quoted_bytes (plain b ∷ parts)) + 1) (Some (n + 1)) (escape_end (n + 1) behind) (quoted_end (n + 1) behind) all.0 (h ∙ ap Some (omega arith))
quoted_again n (escaped b ∷ parts) rest all =
    let h = quoted_again (n + 1 + 1) parts rest all.1 in
    rw all.0 (h ∙ ap Some (omega arith))

-- the bytes are none, or the first begins no gap
abbrev pub BeginsNoGap : List ℕ → Type 0
BeginsNoGap bytes = BeginsWithout begins_gap bytes

-- the bytes begin with a gap that ends at m
pub record IsGapTo (n : ℕ) (bytes : List ℕ) (m : ℕ) : Type 0 where
  pub gap : List GapPart
  pub rest : List ℕ
  pub whole : bytes ≡ gap_bytes gap ++ rest
  pub passed : IsGap gap rest
  pub stops : BeginsNoGap rest
  pub ends : m ≡ n + length (gap_bytes gap)

-- the same after a #
record IsCommentTo (n : ℕ) (bytes : List ℕ) (m : ℕ) : Type 0 where
  inner : List ℕ
  gap : List GapPart
  rest : List ℕ
  whole : bytes ≡ inner ++ (gap_bytes gap ++ rest)
  all : AllFailing ends_line inner
  line : EndsLine (gap_bytes gap ++ rest)
  passed : IsGap gap rest
  stops : BeginsNoGap rest
  ends : m ≡ n + length inner + length (gap_bytes gap)

-- one byte of a gap
gap_step : (v c : Bool) (n b : ℕ) (bs : List ℕ) → is_white_space b ≡ v → (b == 35) ≡ c → IsGapTo (n + 1) bs (gap_end (n + 1) bs) → IsCommentTo (n + 1) bs (comment_end (n + 1) bs) → IsGapTo n (b ∷ bs) (cond v (gap_end (n + 1) bs) (cond c (comment_end (n + 1) bs) n))
gap_step true c n b bs i j h g = record { gap = white b ∷ h.gap; rest = h.rest; whole = ap (λ (l : List ℕ). b ∷ l) h.whole; passed = (i, h.passed); stops = h.stops; ends = omega (arith, h.ends) }
gap_step false true n b bs i j h g =
    record {
      gap = comment g.inner ∷ g.gap;
      rest = g.rest;
      whole = ap (λ (x : ℕ). x ∷ bs) (eqb-true b 35 j) ∙ ap (λ (l : List ℕ). 35 ∷ l) (g.whole ∙ sym (append_assoc g.inner (gap_bytes g.gap) g.rest));
      passed = (g.all, g.line, g.passed);
      stops = g.stops;
      ends = simp length-append (omega (arith, g.ends));
    }
gap_step false false n b bs i j h g = record { gap = []; rest = b ∷ bs; whole = refl; passed = tt; stops = neither (is_white_space b) (b == 35) i j; ends = omega arith }

-- the last test passes
last_of : (u v w : Bool) → w ≡ true → (u || v || w) ≡ true
last_of true v w e = refl
last_of false true w e = refl
last_of false false w e = e

-- the end of a line is white space
line_is_white : (b : ℕ) → ends_line b ≡ true → is_white_space b ≡ true
line_is_white b e = last_of (b == 32) (b == 9) (ends_line b) e

-- one byte of a comment
comment_step : (v : Bool) (n b : ℕ) (bs : List ℕ) → ends_line b ≡ v → IsGapTo (n + 1) bs (gap_end (n + 1) bs) → IsCommentTo (n + 1) bs (comment_end (n + 1) bs) → IsCommentTo n (b ∷ bs) (cond v (gap_end (n + 1) bs) (comment_end (n + 1) bs))
comment_step true n b bs i h g =
    record { inner = []; gap = white b ∷ h.gap; rest = h.rest; whole = ap (λ (l : List ℕ). b ∷ l) h.whole; all = tt; line = i; passed = (line_is_white b i, h.passed); stops = h.stops; ends = omega (arith, h.ends) }
comment_step false n b bs i h g =
    record { inner = b ∷ g.inner; gap = g.gap; rest = g.rest; whole = ap (λ (l : List ℕ). b ∷ l) g.whole; all = (i, g.all); line = g.line; passed = g.passed; stops = g.stops; ends = omega (arith, g.ends) }

mutual
  -- a gap has its form
  pub gap_found : (n : ℕ) (bs : List ℕ) → IsGapTo n bs (gap_end n bs)
  gap_found n [] = record { gap = []; rest = []; whole = refl; passed = tt; stops = tt; ends = omega arith }
  gap_found n (b ∷ bs) = gap_step (is_white_space b) (b == 35) n b bs refl refl (gap_found (n + 1) bs) (comment_found (n + 1) bs)

  -- a comment has its form
  comment_found : (n : ℕ) (bs : List ℕ) → IsCommentTo n bs (comment_end n bs)
  comment_found n [] = record { inner = []; gap = []; rest = []; whole = refl; all = tt; line = tt; passed = tt; stops = tt; ends = omega arith }
  comment_found n (b ∷ bs) = comment_step (ends_line b) n b bs refl (gap_found (n + 1) bs) (comment_found (n + 1) bs)

-- a comment ends with its line
comment_again : (n : ℕ) (inner tail : List ℕ) → AllFailing ends_line inner → EndsLine tail → comment_end n (inner ++ tail) ≡ gap_end (n + length inner) tail
comment_again n [] [] all line = omega arith
comment_again n [] (b ∷ bs) all line =
    let is : is_white_space b ≡ true = line_is_white b line in
    let here : n + 1 ≡ n + 0 + 1 = omega arith in
    rw is (rw line (ap (λ (k : ℕ). gap_end k bs) here))
comment_again n (b ∷ inner) tail all line =
    let here : n + 1 + length inner ≡ n + length (b ∷ inner) = omega arith in
    rw all.0 (comment_again (n + 1) inner tail all.1 line ∙ ap (λ (k : ℕ). gap_end k tail) here)

-- a byte that begins no gap ends it
stop_step : (u v : Bool) (n x y : ℕ) → (u || v) ≡ false → cond u x (cond v y n) ≡ n
stop_step true v n x y e = cc
stop_step false true n x y e = cc
stop_step false false n x y e = refl

-- a gap ends after its parts
pub gap_again : (n : ℕ) (parts : List GapPart) (rest : List ℕ) → IsGap parts rest → BeginsNoGap rest → gap_end n (gap_bytes parts ++ rest) ≡ n + length (gap_bytes parts)
gap_again n [] [] passed stops = omega arith
gap_again n [] (b ∷ bs) passed stops = stop_step (is_white_space b) (b == 35) n (gap_end (n + 1) bs) (comment_end (n + 1) bs) stops ∙ (omega arith)
gap_again n (white b ∷ parts) rest passed stops = rw passed.0 (gap_again (n + 1) parts rest passed.1 stops ∙ (omega arith))
gap_again n (comment inner ∷ parts) rest passed stops =
    let line = comment_again (n + 1) inner (gap_bytes parts ++ rest) passed.0 passed.1 in
    let behind = gap_again (n + 1 + length inner) parts rest passed.2 stops in
    let size : n + 1 + length inner + length (gap_bytes parts) ≡ n + length (gap_bytes (comment inner ∷ parts)) = simp length-append (omega arith) in
    ap (comment_end (n + 1)) (append_assoc inner (gap_bytes parts) rest) ∙ line ∙ behind ∙ size
