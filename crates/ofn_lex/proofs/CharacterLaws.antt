-- A token of UTF-8 begins and ends where characters do.
use Rattle.std.proofs.Common.{◌≡◌, ◌≤◌, ◌<◌, ℕ, suc, ◌+◌, ◌-◌, Bool, true, false, List, [], ◌∷◌, ◌++◌, length, drop, get_or, refl, ap, sym, subst, ◌∙◌, arith, Option, Some, None, Result, Ok, Err, append_assoc, length-append, length-drop}
use Rattle.std.specs.Prelude.{⊤, IsUtf8}
use Rattle.std.specs.List.{AllByRecursion}
use Rattle.std.specs.Str.{IsCharBoundary}
use Rattle.std.proofs.lemmas.Bool.Decides.{nat_tests}
use Rattle.std.proofs.lemmas.List.{get_or-drop, get_or-append-add}
use Rattle.std.proofs.lemmas.Str.{IsCharBoundary-after_ascii}
use Rattle.ofn_lex.specs.declared.token.Token.{Token}
use Rattle.ofn_lex.specs.declared.token.LexFault.{LexFault}
use Rattle.ofn_lex.specs.declared.token.TokenKind.{TokenKind}
use Rattle.ofn_lex.specs.declared.token.TokenKind.TheVariants.{Open, Close, Equals, FullIri, Quoted, Lang, Carets, Run}
use Rattle.ofn_lex.specs.Bytes.{ends_line, is_white_space, is_language_byte, is_run_byte}
use Rattle.ofn_lex.specs.Forms.{GapPart, white, comment, gap_bytes, EndsLine, IsGap, HasForm, quoted_bytes}
use Rattle.ofn_lex.specs.Texts.{NoneLonger, IsAnswer, CutsAtCharacters}
use Rattle.ofn_lex.proofs.AnswerLaws.{drop_behind}

-- the bytes are none, or the first is ASCII
abbrev StartsAscii : List ℕ → Type 0
StartsAscii [] = ⊤
StartsAscii (b ∷ bs) = b < 128

-- the byte after some others
byte_behind : (text : List ℕ) (from : ℕ) (front rest : List ℕ) (b : ℕ) → drop from text ≡ front ++ b ∷ rest → (from + length front < length text) × (get_or text (from + length front) 0 ≡ b)
byte_behind text from front rest b whole =
    let size : length front + suc (length rest) ≡ length text - from = simp (length-append, length-drop) at (sym (ap length whole)) in
    let byte : get_or (drop from text) (length front + 0) 0 ≡ b = ap (λ (l : List ℕ). get_or l (length front + 0) 0) whole ∙ get_or-append-add front (b ∷ rest) 0 0 in
    let place : get_or (drop from text) (length front) 0 ≡ get_or text (from + length front) 0 = get_or-drop from text (length front) 0 in
    let same : length front + 0 ≡ length front = omega arith in
    (omega (arith, size), sym place ∙ ap (λ (n : ℕ). get_or (drop from text) n 0) (sym same) ∙ byte)

-- a text may be cut before an ASCII byte
before_ascii : (text : List ℕ) (from : ℕ) (front rest : List ℕ) → from ≤ length text → drop from text ≡ front ++ rest → StartsAscii rest → IsCharBoundary text (from + length front)
before_ascii text from front [] low whole ascii =
    let size : length front + 0 ≡ length text - from = simp (length-append, length-drop) at (sym (ap length whole)) in
    (omega (arith, size), λ inside. absurd (omega (arith, size)))
before_ascii text from front (b ∷ rest) low whole ascii =
    let byte = byte_behind text from front rest b whole in
    let place = byte.0 in
    let is = byte.1 in
    (omega (arith, place), λ inside high. absurd (omega (arith, is)))

-- a text may be cut after an ASCII byte
after_ascii : (text : List ℕ) (from : ℕ) (front rest : List ℕ) (b : ℕ) → IsUtf8 text → drop from text ≡ front ++ b ∷ rest → b < 128 → IsCharBoundary text (from + (length front + 1))
after_ascii text from front rest b utf8 whole ascii =
    let byte = byte_behind text from front rest b whole in
    let is = byte.1 in
    let low : get_or text (from + length front) 0 < 128 = omega (arith, is) in
    let here : from + length front + 1 ≡ from + (length front + 1) = omega arith in
    subst (IsCharBoundary text) here (IsCharBoundary-after_ascii text (from + length front) utf8 byte.0 low)

-- white space is ASCII
white_is_ascii : (b : ℕ) → is_white_space b ≡ true → b < 128
white_is_ascii b e = grind (arith, nat_tests)

-- the end of a line is ASCII
line_end_is_ascii : (b : ℕ) → ends_line b ≡ true → b < 128
line_end_is_ascii b e = grind (arith, nat_tests)

-- what follows a comment begins with ASCII
line_starts_ascii : (bytes : List ℕ) → EndsLine bytes → StartsAscii bytes
line_starts_ascii [] line = tt
line_starts_ascii (b ∷ bs) line = line_end_is_ascii b line

-- a byte of a language tag is ASCII
language_is_ascii : (b : ℕ) → is_language_byte b ≡ true → b < 128
language_is_ascii b e = grind (arith, nat_tests)

-- a byte that no run holds is ASCII
no_run_is_ascii : (b : ℕ) → is_run_byte b ≡ false → b < 128
no_run_is_ascii b e = grind (arith, nat_tests)

-- a gap ends where a character begins
pub gap_keeps_characters : (text : List ℕ) (from : ℕ) (parts : List GapPart) (rest : List ℕ) → IsUtf8 text → IsCharBoundary text from → drop from text ≡ gap_bytes parts ++ rest → IsGap parts rest → IsCharBoundary text (from + length (gap_bytes parts))
gap_keeps_characters text from [] rest utf8 start whole passed = let here : from ≡ from + 0 = omega arith in subst (IsCharBoundary text) here start
gap_keeps_characters text from (white b ∷ parts) rest utf8 start whole passed =
    let past : IsCharBoundary text (from + 1) = after_ascii text from [] (gap_bytes parts ++ rest) b utf8 whole (white_is_ascii b passed.0) in
    let behind : drop (from + 1) text ≡ gap_bytes parts ++ rest = drop_behind text from (b ∷ []) (gap_bytes parts ++ rest) whole in
    let here : from + 1 + length (gap_bytes parts) ≡ from + length (gap_bytes (white b ∷ parts)) = omega arith in
    subst (IsCharBoundary text) here (gap_keeps_characters text (from + 1) parts rest utf8 past behind passed.1)
gap_keeps_characters text from (comment inner ∷ parts) rest utf8 start whole passed =
    let split : drop from text ≡ (35 ∷ inner) ++ (gap_bytes parts ++ rest) = whole ∙ ap (λ (l : List ℕ). 35 ∷ l) (append_assoc inner (gap_bytes parts) rest) in
    let low : from ≤ length text = start.0 in
    let past : IsCharBoundary text (from + length (35 ∷ inner)) = before_ascii text from (35 ∷ inner) (gap_bytes parts ++ rest) low split (line_starts_ascii (gap_bytes parts ++ rest) passed.1) in
    let behind : drop (from + length (35 ∷ inner)) text ≡ gap_bytes parts ++ rest = drop_behind text from (35 ∷ inner) (gap_bytes parts ++ rest) split in
    let here : from + length (35 ∷ inner) + length (gap_bytes parts) ≡ from + length (gap_bytes (comment inner ∷ parts)) = simp length-append (omega arith) in
    subst (IsCharBoundary text) here (gap_keeps_characters text (from + length (35 ∷ inner)) parts rest utf8 past behind passed.2)

-- after a front that ends with an ASCII byte
past_last : (text : List ℕ) (from : ℕ) (own front rest : List ℕ) (b : ℕ) → IsUtf8 text → drop from text ≡ own ++ rest → own ≡ front ++ b ∷ [] → b < 128 → IsCharBoundary text (from + length own)
past_last text from own front rest b utf8 whole last ascii =
    let split : drop from text ≡ front ++ b ∷ rest = whole ∙ ap (λ (l : List ℕ). l ++ rest) last ∙ append_assoc front (b ∷ []) rest in
    let size : length own ≡ length front + 1 = ap length last ∙ (simp length-append) in
    subst (λ (n : ℕ). IsCharBoundary text (from + n)) (sym size) (after_ascii text from front rest b utf8 split ascii)

-- a language tag ends where a character begins
past_language : (text : List ℕ) (from : ℕ) (front inner rest : List ℕ) (b : ℕ) → IsUtf8 text → drop from text ≡ (front ++ b ∷ inner) ++ rest → b < 128 → AllByRecursion (λ b. is_language_byte b ≡ true) inner → IsCharBoundary text (from + length (front ++ b ∷ inner))
past_language text from front [] rest b utf8 whole ascii all = past_last text from (front ++ b ∷ []) front rest b utf8 whole refl ascii
past_language text from front (c ∷ inner) rest b utf8 whole ascii all =
    let same : front ++ b ∷ c ∷ inner ≡ (front ++ b ∷ []) ++ c ∷ inner = sym (append_assoc front (b ∷ []) (c ∷ inner)) in
    let split : drop from text ≡ ((front ++ b ∷ []) ++ c ∷ inner) ++ rest = whole ∙ ap (λ (l : List ℕ). l ++ rest) same in
    subst (λ (l : List ℕ). IsCharBoundary text (from + length l)) (sym same) (past_language text from (front ++ b ∷ []) inner rest c utf8 split (language_is_ascii c all.0) all.1)

-- one more byte that passes
all_and_one : (passes : ℕ → Bool) (own : List ℕ) (b : ℕ) → AllByRecursion (λ c. passes c ≡ true) own → passes b ≡ true → AllByRecursion (λ c. passes c ≡ true) (own ++ b ∷ [])
all_and_one passes [] b all e = (e, tt)
all_and_one passes (c ∷ own) b all e = (all.0, all_and_one passes own b all.1 e)

-- the byte after a run is ASCII
run_stops : (v : Bool) (own rest : List ℕ) (b : ℕ) → is_run_byte b ≡ v → AllByRecursion (λ c. is_run_byte c ≡ true) own → NoneLonger (length own) (own ++ b ∷ rest) → b < 128
run_stops true own rest b e all longest =
    let more : length (own ++ b ∷ []) ≤ length own = longest Run (own ++ b ∷ []) rest (simp length-append (omega arith), all_and_one is_run_byte own b all e) (sym (append_assoc own (b ∷ []) rest)) in
    let size : length (own ++ b ∷ []) ≡ length own + 1 = simp length-append in
    absurd (omega arith)
run_stops false own rest b e all longest = no_run_is_ascii b e

-- a run ends where a character begins
past_run : (text : List ℕ) (from : ℕ) (own rest : List ℕ) → from ≤ length text → drop from text ≡ own ++ rest → AllByRecursion (λ c. is_run_byte c ≡ true) own → NoneLonger (length own) (own ++ rest) → IsCharBoundary text (from + length own)
past_run text from own [] low whole all longest = before_ascii text from own [] low whole tt
past_run text from own (b ∷ rest) low whole all longest = before_ascii text from own (b ∷ rest) low whole (run_stops (is_run_byte b) own rest b refl all longest)

-- a token ends where a character begins
token_keeps_characters : (text : List ℕ) (from : ℕ) (kind : TokenKind) (own rest : List ℕ) → IsUtf8 text → from ≤ length text → drop from text ≡ own ++ rest → HasForm kind own → NoneLonger (length own) (own ++ rest) → IsCharBoundary text (from + length own)
token_keeps_characters text from Open own rest utf8 low whole form longest = past_last text from own [] rest 40 utf8 whole form (omega arith)
token_keeps_characters text from Close own rest utf8 low whole form longest = past_last text from own [] rest 41 utf8 whole form (omega arith)
token_keeps_characters text from Equals own rest utf8 low whole form longest = past_last text from own [] rest 61 utf8 whole form (omega arith)
token_keeps_characters text from FullIri own rest utf8 low whole form longest = past_last text from own (60 ∷ form.0) rest 62 utf8 whole form.2 (omega arith)
token_keeps_characters text from Quoted own rest utf8 low whole form longest = past_last text from own (34 ∷ quoted_bytes form.0) rest 34 utf8 whole form.2 (omega arith)
token_keeps_characters text from Lang own rest utf8 low whole form longest =
    subst (λ (l : List ℕ). IsCharBoundary text (from + length l)) (sym form.3) (past_language text from [] form.0 rest 64 utf8 (whole ∙ ap (λ (l : List ℕ). l ++ rest) form.3) (omega arith) form.2)
token_keeps_characters text from Carets own rest utf8 low whole form longest = past_last text from own (94 ∷ []) rest 94 utf8 whole form (omega arith)
token_keeps_characters text from Run own rest utf8 low whole form longest = past_run text from own rest low whole form.1 longest

-- what is read begins and ends where characters do
pub answer_keeps_characters : (text : List ℕ) (from : ℕ) (answer : Result (Option Token) LexFault) → IsUtf8 text → IsCharBoundary text from → IsAnswer text from answer → CutsAtCharacters text answer
answer_keeps_characters text from (Ok None) utf8 start h = tt
answer_keeps_characters text from (Err fault) utf8 start h = subst (IsCharBoundary text) (sym h.offset) (gap_keeps_characters text from h.gap (h.byte ∷ h.rest) utf8 start h.whole h.passed)
answer_keeps_characters text from (Ok (Some token)) utf8 start h =
    let first : IsCharBoundary text token.start = subst (IsCharBoundary text) (sym h.starts) (gap_keeps_characters text from h.gap (h.own ++ h.rest) utf8 start h.whole h.passed) in
    let behind : drop token.start text ≡ h.own ++ h.rest = ap (λ (n : ℕ). drop n text) h.starts ∙ drop_behind text from (gap_bytes h.gap) (h.own ++ h.rest) h.whole in
    (first, subst (IsCharBoundary text) (sym h.ends) (token_keeps_characters text token.start token.kind h.own h.rest utf8 first.0 behind h.form h.longest))
