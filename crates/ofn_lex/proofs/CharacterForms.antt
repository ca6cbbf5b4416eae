-- The characters of bytes that have a form have it.
use Rattle.std.proofs.Common.{◌≡◌, ◌≤◌, ◌<◌, ℕ, true, false, List, [], ◌∷◌, ◌++◌, length, ap, sym, ◌∙◌, arith, ⊎_elim}
use Rattle.std.specs.List.{AllByRecursion}
use Rattle.std.specs.Str.{encode_utf8_all}
use Rattle.std.proofs.lemmas.Bool.{cases_lt}
use Rattle.std.proofs.lemmas.Str.{encodes_same, length-encode, len_utf8_bounds}
use lib.Utf8.{encode}
use Rattle.ofn_lex.specs.declared.token.TokenKind.{TokenKind}
use Rattle.ofn_lex.specs.declared.token.TokenKind.TheVariants.{Open, Close, Equals, FullIri, Quoted, Lang, Carets, Run}
use Rattle.byte_words.specs.Lists.{AllPassing}
use Rattle.ofn_lex.specs.Bytes.{is_iri_byte, is_escaped, is_language_byte, is_run_byte}
use Rattle.ofn_lex.specs.Forms.{HasForm, QuotedPart, plain, escaped, IsQuotedPart, quoted_bytes}
use Rattle.ofn_lex.proofs.ByteForms.{AreHigh, encode_is_high, characters_pass, iri_passes_high, run_passes_high, escaped_is_ascii, high_is_plain, ascii_first, language_same, begins_with, run_has_characters}

-- characters that are the inner ones of an IRI, before its >
record IriOf (cs : List ℕ) : Type 0 where
  inner : List ℕ
  all : AllPassing is_iri_byte inner
  whole : cs ≡ inner ++ 62 ∷ []

-- an ASCII character in a full IRI
iri_ascii : (c b : ℕ) (inner cs : List ℕ) → c ∷ encode_utf8_all cs ≡ b ∷ (inner ++ 62 ∷ []) → is_iri_byte b ≡ true → (encode_utf8_all cs ≡ inner ++ 62 ∷ [] → IriOf cs) → IriOf (c ∷ cs)
iri_ascii c b inner cs e pass more =
    let first : c ≡ b = cc in
    let behind : encode_utf8_all cs ≡ inner ++ 62 ∷ [] = cc in
    let r = more behind in
    record { inner = c ∷ r.inner; all = (ap is_iri_byte first ∙ pass, r.all); whole = ap (λ (l : List ℕ). c ∷ l) r.whole }

-- a character past ASCII in a full IRI
iri_high : (c b : ℕ) (bytes inner cs : List ℕ) → 128 ≤ c → 1 ≤ length bytes → AreHigh bytes → bytes ++ encode_utf8_all cs ≡ b ∷ (inner ++ 62 ∷ []) →
    ((left : List ℕ) → AreHigh left → left ++ encode_utf8_all cs ≡ inner ++ 62 ∷ [] → IriOf cs) → IriOf (c ∷ cs)
iri_high c b [] inner cs past some high e more = absurd (omega arith)
iri_high c b (h ∷ left) inner cs past some high e more =
    let behind : left ++ encode_utf8_all cs ≡ inner ++ 62 ∷ [] = cc in
    let r = more left high.1 behind in
    record { inner = c ∷ r.inner; all = (iri_passes_high c past, r.all); whole = ap (λ (l : List ℕ). c ∷ l) r.whole }

-- a character has a byte
encode_has_bytes : (c : ℕ) → 1 ≤ length (encode c)
encode_has_bytes c = omega (arith, length-encode c, (len_utf8_bounds c).0)

-- from high bytes that are left of a character, and the characters after it
iri_of_characters : (inner left cs : List ℕ) → AreHigh left → left ++ encode_utf8_all cs ≡ inner ++ 62 ∷ [] → AllPassing is_iri_byte inner → IriOf cs
iri_of_characters [] [] cs high e all =
    let r = begins_with 62 [] cs (omega arith) e in
    let none : r.behind ≡ [] = encodes_same r.behind [] r.same in
    record { inner = []; all = tt; whole = r.whole ∙ ap (λ (l : List ℕ). 62 ∷ l) none }
iri_of_characters [] (h ∷ left) cs high e all =
    let same : h ≡ 62 = cc in
    let past = high.0 in
    absurd (omega arith)
iri_of_characters (b ∷ inner) (h ∷ left) cs high e all =
    let same : left ++ encode_utf8_all cs ≡ inner ++ 62 ∷ [] = cc in
    iri_of_characters inner left cs high.1 same all.1
iri_of_characters (b ∷ inner) [] [] high e all = cc
iri_of_characters (b ∷ inner) [] (c ∷ cs) high e all =
    ⊎_elim
    (λ low. iri_ascii c b inner cs (sym (ascii_first c cs low) ∙ e) all.0 (λ same. iri_of_characters inner [] cs tt same all.1))
    (λ past. iri_high c b (encode c) inner cs past (encode_has_bytes c) (encode_is_high c past) e (λ left more same. iri_of_characters inner left cs more same all.1))
    (cases_lt c 128)

-- characters that are the inner ones of a quoted text, before its last "
record QuotedOf (cs : List ℕ) : Type 0 where
  parts : List QuotedPart
  all : AllByRecursion IsQuotedPart parts
  whole : cs ≡ quoted_bytes parts ++ 34 ∷ []

-- an ASCII character in a quoted text
quoted_ascii : (c b : ℕ) (bytes cs : List ℕ) → c ∷ encode_utf8_all cs ≡ b ∷ bytes → is_escaped b ≡ false → (encode_utf8_all cs ≡ bytes → QuotedOf cs) → QuotedOf (c ∷ cs)
quoted_ascii c b bytes cs e is more =
    let first : c ≡ b = cc in
    let behind : encode_utf8_all cs ≡ bytes = cc in
    let r = more behind in
    record { parts = plain c ∷ r.parts; all = (ap is_escaped first ∙ is, r.all); whole = ap (λ (l : List ℕ). c ∷ l) r.whole }

-- a character past ASCII in a quoted text
quoted_high : (c b : ℕ) (own bytes cs : List ℕ) → 128 ≤ c → 1 ≤ length own → AreHigh own → own ++ encode_utf8_all cs ≡ b ∷ bytes → ((left : List ℕ) → AreHigh left → left ++ encode_utf8_all cs ≡ bytes → QuotedOf cs) → QuotedOf (c ∷ cs)
quoted_high c b [] bytes cs past some high e more = absurd (omega arith)
quoted_high c b (h ∷ left) bytes cs past some high e more =
    let behind : left ++ encode_utf8_all cs ≡ bytes = cc in
    let r = more left high.1 behind in
    record { parts = plain c ∷ r.parts; all = (high_is_plain c past, r.all); whole = ap (λ (l : List ℕ). c ∷ l) r.whole }

-- a character after a backslash in a quoted text
quoted_escape : (b : ℕ) (bytes cs : List ℕ) → is_escaped b ≡ true → encode_utf8_all cs ≡ 92 ∷ b ∷ bytes → ((ds : List ℕ) → encode_utf8_all ds ≡ bytes → QuotedOf ds) → QuotedOf cs
quoted_escape b bytes cs is e more =
    let slash = begins_with 92 (b ∷ bytes) cs (omega arith) e in
    let byte = begins_with b bytes slash.behind (escaped_is_ascii b is) slash.same in
    let r = more byte.behind byte.same in
    record { parts = escaped b ∷ r.parts; all = (is, r.all); whole = slash.whole ∙ ap (λ (l : List ℕ). 92 ∷ l) (byte.whole ∙ ap (λ (l : List ℕ). b ∷ l) r.whole) }

-- the parts of a quoted text, over characters
quoted_of_characters : (parts : List QuotedPart) (left cs : List ℕ) → AreHigh left → left ++ encode_utf8_all cs ≡ quoted_bytes parts ++ 34 ∷ [] → AllByRecursion IsQuotedPart parts → QuotedOf cs
quoted_of_characters [] [] cs high e all =
    let r = begins_with 34 [] cs (omega arith) e in
    let none : r.behind ≡ [] = encodes_same r.behind [] r.same in
    record { parts = []; all = tt; whole = r.whole ∙ ap (λ (l : List ℕ). 34 ∷ l) none }
quoted_of_characters [] (h ∷ left) cs high e all =
    let same : h ≡ 34 = cc in
    let past = high.0 in
    absurd (omega arith)
quoted_of_characters (plain b ∷ parts) (h ∷ left) cs high e all =
    let same : left ++ encode_utf8_all cs ≡ quoted_bytes parts ++ 34 ∷ [] = cc in
    quoted_of_characters parts left cs high.1 same all.1
quoted_of_characters (plain b ∷ parts) [] [] high e all = cc
quoted_of_characters (plain b ∷ parts) [] (c ∷ cs) high e all =
    ⊎_elim
    (λ low. quoted_ascii c b (quoted_bytes parts ++ 34 ∷ []) cs (sym (ascii_first c cs low) ∙ e) all.0 (λ same. quoted_of_characters parts [] cs tt same all.1))
    (λ past. quoted_high c b (encode c) (quoted_bytes parts ++ 34 ∷ []) cs past (encode_has_bytes c) (encode_is_high c past) e (λ left more same. quoted_of_characters parts left cs more same all.1))
    (cases_lt c 128)
quoted_of_characters (escaped b ∷ parts) (h ∷ left) cs high e all =
    let same : h ≡ 92 = cc in
    let past = high.0 in
    absurd (omega arith)
quoted_of_characters (escaped b ∷ parts) [] cs high e all =
    quoted_escape b (quoted_bytes parts ++ 34 ∷ []) cs all.0 e (λ ds same. quoted_of_characters parts [] ds tt same all.1)

-- characters whose bytes are ASCII are these bytes
from_ascii : (cs : List ℕ) (c : ℕ) → c < 128 → encode_utf8_all cs ≡ c ∷ [] → cs ≡ c ∷ []
from_ascii cs c low e = encodes_same cs (c ∷ []) (e ∙ sym (ascii_first c [] low))

-- the characters of a full IRI
form_of_characters_iri : (cs inner : List ℕ) → AllPassing is_iri_byte inner → encode_utf8_all cs ≡ 60 ∷ (inner ++ 62 ∷ []) → HasForm FullIri cs
form_of_characters_iri cs inner all e =
    let first = begins_with 60 (inner ++ 62 ∷ []) cs (omega arith) e in
    let r = iri_of_characters inner [] first.behind tt first.same all in
    (r.inner, r.all, first.whole ∙ ap (λ (l : List ℕ). 60 ∷ l) r.whole)

-- the characters of a quoted text
form_of_characters_quoted : (cs : List ℕ) (parts : List QuotedPart) → AllByRecursion IsQuotedPart parts → encode_utf8_all cs ≡ 34 ∷ (quoted_bytes parts ++ 34 ∷ []) → HasForm Quoted cs
form_of_characters_quoted cs parts all e =
    let first = begins_with 34 (quoted_bytes parts ++ 34 ∷ []) cs (omega arith) e in
    let r = quoted_of_characters parts [] first.behind tt first.same all in
    (r.parts, r.all, first.whole ∙ ap (λ (l : List ℕ). 34 ∷ l) r.whole)

-- the characters of a language tag
form_of_characters_lang : (cs inner : List ℕ) → 1 ≤ length inner → AllPassing is_language_byte inner → encode_utf8_all cs ≡ 64 ∷ inner → HasForm Lang cs
form_of_characters_lang cs inner some all e =
    (inner, some, all, encodes_same cs (64 ∷ inner) (e ∙ ap (λ (l : List ℕ). 64 ∷ l) (sym (language_same inner all)) ∙ sym (ascii_first 64 inner (omega arith))))

-- the characters of two carets
form_of_characters_carets : (cs : List ℕ) → encode_utf8_all cs ≡ 94 ∷ 94 ∷ [] → cs ≡ 94 ∷ 94 ∷ []
form_of_characters_carets cs e =
    let first = begins_with 94 (94 ∷ []) cs (omega arith) e in
    first.whole ∙ ap (λ (l : List ℕ). 94 ∷ l) (from_ascii first.behind 94 (omega arith) first.same)

-- characters whose bytes have a form have it
pub form_of_characters : (kind : TokenKind) (cs : List ℕ) → HasForm kind (encode_utf8_all cs) → HasForm kind cs
form_of_characters Open cs form = from_ascii cs 40 (omega arith) form
form_of_characters Close cs form = from_ascii cs 41 (omega arith) form
form_of_characters Equals cs form = from_ascii cs 61 (omega arith) form
form_of_characters FullIri cs form = form_of_characters_iri cs form.0 form.1 form.2
form_of_characters Quoted cs form = form_of_characters_quoted cs form.0 form.1 form.2
form_of_characters Lang cs form = form_of_characters_lang cs form.0 form.1 form.2 form.3
form_of_characters Carets cs form = form_of_characters_carets cs form
form_of_characters Run cs form = (run_has_characters cs form.0, characters_pass is_run_byte cs run_passes_high form.1)
