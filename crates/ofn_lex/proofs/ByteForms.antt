-- The bytes of characters that have a form have it.
use Rattle.std.proofs.Common.{◌≡◌, ◌≤◌, ◌<◌, ℕ, ◌+◌, ◌/◌, Bool, true, false, cond, List, [], ◌∷◌, ◌++◌, length, refl, ap, sym, subst, ◌∙◌, arith, length-append, ⊎_elim, le-ltb}
use Rattle.std.specs.Prelude.{nat_lt}
use Rattle.std.specs.List.{AllByRecursion}
use Rattle.std.specs.Str.{encode_utf8_all}
use Rattle.std.proofs.lemmas.Bool.{cases_lt}
use Rattle.std.proofs.lemmas.Bool.Decides.{nat_tests}
use Rattle.std.proofs.lemmas.Str.{encode_ascii, encodes-append, cons_from_encodes, length-encode, len_utf8_bounds}
use lib.Utf8.{encode, next}
use Rattle.ofn_lex.specs.declared.token.TokenKind.{TokenKind}
use Rattle.ofn_lex.specs.declared.token.TokenKind.TheVariants.{Open, Close, Equals, FullIri, Quoted, Lang, Carets, Run}
use Rattle.byte_words.specs.Lists.{AllPassing}
use Rattle.ofn_lex.specs.Bytes.{is_iri_byte, is_escaped, is_language_byte, is_run_byte}
use Rattle.ofn_lex.specs.Forms.{HasForm, QuotedPart, plain, escaped, IsQuotedPart, quoted_bytes}

-- all bytes are past ASCII
abbrev pub AreHigh : List ℕ → Type 0
AreHigh bytes = AllByRecursion (λ b. 128 ≤ b) bytes

-- the bytes of a character, by their number
high_step : (u v w : Bool) (c : ℕ) → u ≡ false →
    AreHigh (cond u (c ∷ []) (cond v ((192 + c / 64) ∷ next c ∷ []) (cond w ((224 + c / 4096) ∷ next (c / 64) ∷ next c ∷ []) ((240 + c / 262144) ∷ next (c / 4096) ∷ next (c / 64) ∷ next c ∷ []))))
high_step true v w c e = cc
high_step false true w c e = (omega arith, (omega arith, tt))
high_step false false true c e = (omega arith, (omega arith, (omega arith, tt)))
high_step false false false c e = (omega arith, (omega arith, (omega arith, (omega arith, tt))))

-- each byte of a character past ASCII is past ASCII
pub encode_is_high : (c : ℕ) → 128 ≤ c → AreHigh (encode c)
unfolding encode
encode_is_high c high = high_step (nat_lt c 128) (nat_lt c 2048) (nat_lt c 65536) c (le-ltb c 128 high)

-- every byte past ASCII passes
abbrev PassesHigh : (ℕ → Bool) → Type 0
PassesHigh passes = (b : ℕ) → 128 ≤ b → passes b ≡ true

-- both lists pass
all_append : (passes : ℕ → Bool) (xs ys : List ℕ) → AllPassing passes xs → AllPassing passes ys → AllPassing passes (xs ++ ys)
all_append passes [] ys all more = more
all_append passes (x ∷ xs) ys all more = (all.0, all_append passes xs ys all.1 more)

-- the second list passes
all_behind : (passes : ℕ → Bool) (xs ys : List ℕ) → AllPassing passes (xs ++ ys) → AllPassing passes ys
all_behind passes [] ys all = all
all_behind passes (x ∷ xs) ys all = all_behind passes xs ys all.1

-- bytes past ASCII pass
high_pass : (passes : ℕ → Bool) (bytes : List ℕ) → PassesHigh passes → AreHigh bytes → AllPassing passes bytes
high_pass passes [] p high = tt
high_pass passes (b ∷ bs) p high = (p b high.0, high_pass passes bs p high.1)

-- all bytes pass exactly where all characters do
bytes_pass : (passes : ℕ → Bool) (cs : List ℕ) → PassesHigh passes → AllPassing passes cs → AllPassing passes (encode_utf8_all cs)
bytes_pass passes [] p all = tt
bytes_pass passes (c ∷ cs) p all =
    let own : AllPassing passes (encode c) =
    ⊎_elim
    (λ low. subst (AllPassing passes) (sym (encode_ascii c low)) (all.0, tt))
    (λ high. high_pass passes (encode c) p (encode_is_high c high))
    (cases_lt c 128) in
    all_append passes (encode c) (encode_utf8_all cs) own (bytes_pass passes cs p all.1)

-- if the bytes of characters pass, the characters do
pub characters_pass : (passes : ℕ → Bool) (cs : List ℕ) → PassesHigh passes → AllPassing passes (encode_utf8_all cs) → AllPassing passes cs
characters_pass passes [] p all = tt
characters_pass passes (c ∷ cs) p all =
    let behind = characters_pass passes cs p (all_behind passes (encode c) (encode_utf8_all cs) all) in
    let own : passes c ≡ true =
    ⊎_elim
    (λ low. let bytes : AllPassing passes (c ∷ encode_utf8_all cs) = subst (λ (l : List ℕ). AllPassing passes (l ++ encode_utf8_all cs)) (encode_ascii c low) all in bytes.0)
    (λ high. p c high)
    (cases_lt c 128) in
    (own, behind)

-- every byte past ASCII may stand in an IRI
pub iri_passes_high : PassesHigh is_iri_byte
iri_passes_high b high = grind (arith, nat_tests)

-- every byte past ASCII may stand in a run
pub run_passes_high : PassesHigh is_run_byte
run_passes_high b high = grind (arith, nat_tests)

-- a byte of a language tag is ASCII
language_is_ascii : (b : ℕ) → is_language_byte b ≡ true → b < 128
language_is_ascii b e = grind (arith, nat_tests)

-- an escaped byte is ASCII
pub escaped_is_ascii : (b : ℕ) → is_escaped b ≡ true → b < 128
escaped_is_ascii b e = grind (arith, nat_tests)

-- a byte past ASCII is not escaped
pub high_is_plain : (b : ℕ) → 128 ≤ b → is_escaped b ≡ false
high_is_plain b high = grind (arith, nat_tests)

-- an ASCII character at the front is its own byte
pub ascii_first : (c : ℕ) (cs : List ℕ) → c < 128 → encode_utf8_all (c ∷ cs) ≡ c ∷ encode_utf8_all cs
ascii_first c cs low = ap (λ (l : List ℕ). l ++ encode_utf8_all cs) (encode_ascii c low)

-- an ASCII character at the end is its own byte
ascii_last : (cs : List ℕ) (c : ℕ) → c < 128 → encode_utf8_all (cs ++ c ∷ []) ≡ encode_utf8_all cs ++ c ∷ []
ascii_last cs c low = encodes-append cs (c ∷ []) ∙ ap (λ (l : List ℕ). encode_utf8_all cs ++ l) (ascii_first c [] low)

-- a language tag has the same characters and bytes
pub language_same : (cs : List ℕ) → AllPassing is_language_byte cs → encode_utf8_all cs ≡ cs
language_same [] all = refl
language_same (c ∷ cs) all = ascii_first c cs (language_is_ascii c all.0) ∙ ap (λ (l : List ℕ). c ∷ l) (language_same cs all.1)

-- characters whose bytes begin with an ASCII byte begin with it
pub record BeginsWith (b : ℕ) (bytes cs : List ℕ) : Type 0 where
  pub behind : List ℕ
  pub whole : cs ≡ b ∷ behind
  pub same : encode_utf8_all behind ≡ bytes

-- characters whose bytes begin with an ASCII byte begin with it
pub begins_with : (b : ℕ) (bytes cs : List ℕ) → b < 128 → encode_utf8_all cs ≡ b ∷ bytes → BeginsWith b bytes cs
begins_with b bytes cs low e =
    let parts = cons_from_encodes cs bytes b (e ∙ ap (λ (l : List ℕ). l ++ bytes) (sym (encode_ascii b low))) in
    record { behind = parts.0; whole = parts.1; same = parts.2 }

-- the parts of a quoted text, in bytes
record PartsOf (bytes : List ℕ) : Type 0 where
  parts : List QuotedPart
  all : AllByRecursion IsQuotedPart parts
  whole : bytes ≡ quoted_bytes parts

-- bytes past ASCII, as parts of a quoted text
plain_parts : (bytes : List ℕ) (more : List ℕ) → AreHigh bytes → PartsOf more → PartsOf (bytes ++ more)
plain_parts [] more high h = h
plain_parts (b ∷ bs) more high h =
    let r = plain_parts bs more high.1 h in
    record { parts = plain b ∷ r.parts; all = (high_is_plain b high.0, r.all); whole = ap (λ (l : List ℕ). b ∷ l) r.whole }

-- the parts of a quoted text, over the bytes of characters
parts_of_bytes : (parts : List QuotedPart) → AllByRecursion IsQuotedPart parts → PartsOf (encode_utf8_all (quoted_bytes parts))
parts_of_bytes [] all = record { parts = []; all = tt; whole = refl }
parts_of_bytes (plain c ∷ parts) all =
    let more = parts_of_bytes parts all.1 in
    ⊎_elim
    (λ low. record { parts = plain c ∷ more.parts; all = (all.0, more.all); whole = ascii_first c (quoted_bytes parts) low ∙ ap (λ (l : List ℕ). c ∷ l) more.whole })
    (λ high. plain_parts (encode c) (encode_utf8_all (quoted_bytes parts)) (encode_is_high c high) more)
    (cases_lt c 128)
parts_of_bytes (escaped c ∷ parts) all =
    let more = parts_of_bytes parts all.1 in
    let bytes = ascii_first 92 (c ∷ quoted_bytes parts) (omega arith) ∙ ap (λ (l : List ℕ). 92 ∷ l) (ascii_first c (quoted_bytes parts) (escaped_is_ascii c all.0) ∙ ap (λ (l : List ℕ). c ∷ l) more.whole) in
    record { parts = escaped c ∷ more.parts; all = (all.0, more.all); whole = bytes }

-- the bytes of a full IRI
form_of_bytes_iri : (cs inner : List ℕ) → AllPassing is_iri_byte inner → cs ≡ 60 ∷ (inner ++ 62 ∷ []) → HasForm FullIri (encode_utf8_all cs)
form_of_bytes_iri cs inner all e =
    (encode_utf8_all inner, bytes_pass is_iri_byte inner iri_passes_high all, ap encode_utf8_all e ∙ ascii_first 60 (inner ++ 62 ∷ []) (omega arith) ∙ ap (λ (l : List ℕ). 60 ∷ l) (ascii_last inner 62 (omega arith)))

-- the bytes of a quoted text
form_of_bytes_quoted : (cs : List ℕ) (parts : List QuotedPart) → AllByRecursion IsQuotedPart parts → cs ≡ 34 ∷ (quoted_bytes parts ++ 34 ∷ []) → HasForm Quoted (encode_utf8_all cs)
form_of_bytes_quoted cs parts all e =
    let r = parts_of_bytes parts all in
    (r.parts, r.all, ap encode_utf8_all e ∙ ascii_first 34 (quoted_bytes parts ++ 34 ∷ []) (omega arith) ∙ ap (λ (l : List ℕ). 34 ∷ l) (ascii_last (quoted_bytes parts) 34 (omega arith) ∙ ap (λ (l : List ℕ). l ++ 34 ∷ []) r.whole))

-- characters have bytes
run_has_bytes : (cs : List ℕ) → 1 ≤ length cs → 1 ≤ length (encode_utf8_all cs)
run_has_bytes [] h = absurd (omega arith)
run_has_bytes (c ∷ cs) h =
    let size : 1 ≤ length (encode c) = omega (arith, length-encode c, (len_utf8_bounds c).0) in
    simp length-append (omega arith)

-- bytes are of characters
pub run_has_characters : (cs : List ℕ) → 1 ≤ length (encode_utf8_all cs) → 1 ≤ length cs
run_has_characters [] h = h
run_has_characters (c ∷ cs) h = omega arith

-- one ASCII character
one_ascii : (cs : List ℕ) (c : ℕ) → c < 128 → cs ≡ c ∷ [] → encode_utf8_all cs ≡ c ∷ []
one_ascii cs c low e = ap encode_utf8_all e ∙ ascii_first c [] low

-- characters with a form have bytes with it
pub form_of_bytes : (kind : TokenKind) (cs : List ℕ) → HasForm kind cs → HasForm kind (encode_utf8_all cs)
form_of_bytes Open cs form = one_ascii cs 40 (omega arith) form
form_of_bytes Close cs form = one_ascii cs 41 (omega arith) form
form_of_bytes Equals cs form = one_ascii cs 61 (omega arith) form
form_of_bytes FullIri cs form = form_of_bytes_iri cs form.0 form.1 form.2
form_of_bytes Quoted cs form = form_of_bytes_quoted cs form.0 form.1 form.2
form_of_bytes Lang cs form =
    (form.0, form.1, form.2, ap encode_utf8_all form.3 ∙ ascii_first 64 form.0 (omega arith) ∙ ap (λ (l : List ℕ). 64 ∷ l) (language_same form.0 form.2))
form_of_bytes Carets cs form = ap encode_utf8_all form ∙ ascii_first 94 (94 ∷ []) (omega arith) ∙ ap (λ (l : List ℕ). 94 ∷ l) (ascii_first 94 [] (omega arith))
form_of_bytes Run cs form = (run_has_bytes cs form.0, bytes_pass is_run_byte cs run_passes_high form.1)
