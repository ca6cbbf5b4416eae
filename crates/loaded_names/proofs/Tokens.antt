-- What tokens stand for: the bytes of an IRI.
use Rattle.std.proofs.Common.{◌≡◌, ◌≤◌, ◌<◌, ℕ, ◌+◌, ◌-◌, Bool, true, false, cond, List, [], length, All, refl, sym, ap, subst, ◌∙◌, arith, true≢false, eqb-true}
use Rattle.std.specs.Prelude.{Option, Some, IfSome, slice_range, nat_eq, nat_le, nat_lt}
use Rattle.std.specs.List.{AllByRecursion, position_or_len}
use Rattle.std.proofs.lemmas.Bool.Decides.{nat_tests}
use Rattle.std.proofs.lemmas.List.Elements.{All-nil, All-append, All-drop, All-from_recursion, All-weaker}
use Rattle.std.proofs.lemmas.Map.Entries.{All-lookup}
use Rattle.ofn_lex.specs.Bytes as lex
use Rattle.ofn_lex.specs.Forms.{HasForm}
use Rattle.ofn_lex.specs.Texts.{IsTokenOf}
use Rattle.ofn_lex.specs.Texts as lexed
use Rattle.ofn_lex.specs.declared.token.Token.{Token}
use Rattle.ofn_lex.specs.declared.token.TokenKind.{TokenKind}
use Rattle.ofn_lex.specs.declared.token.TokenKind.TheVariants as kind
use Rattle.ofn_heads.specs.Names.{piece, iri_between, spelling}
use Rattle.text_names.specs.Prefixes.{Prefixes, is_colon, rest_of, iri_of}
use Rattle.ofn_axiom.specs.StandsFor.{IsIri, full, short}
use Rattle.loaded_names.proofs.Bytes.{Passes, piece_passes, between_brackets}

-- a byte that passes a test is not one that fails it
fails_it : (test : ℕ → Bool) (b other : ℕ) → test other ≡ false → test b ≡ true → nat_eq b other ≡ false
fails_it test b other fails passes = by (nat_eq b other) refl
  where
    by : (same : Bool) → nat_eq b other ≡ same → same ≡ false
    by false e = refl
    by true e = absurd (true≢false (sym passes ∙ ap test (eqb-true b other e) ∙ fails))

-- a byte that is none of the four passes
none_of_these : (b : ℕ) → nat_eq b 60 ≡ false → nat_eq b 62 ≡ false → nat_eq b 32 ≡ false → nat_eq b 10 ≡ false → Passes b
none_of_these b x y z w = rw (x, y, z, w) refl

-- a byte of a full IRI passes, and so does a byte of a run
full_byte : (b : ℕ) → lex.is_iri_byte b ≡ true → Passes b
full_byte b h = none_of_these b (fails_it lex.is_iri_byte b 60 refl h) (fails_it lex.is_iri_byte b 62 refl h)
    (fails_it lex.is_iri_byte b 32 refl h) (fails_it lex.is_iri_byte b 10 refl h)

run_byte : (b : ℕ) → lex.is_run_byte b ≡ true → Passes b
run_byte b h = none_of_these b (fails_it lex.is_run_byte b 60 refl h) (fails_it lex.is_run_byte b 62 refl h)
    (fails_it lex.is_run_byte b 32 refl h) (fails_it lex.is_run_byte b 10 refl h)

-- the bytes of a token are those between its offsets
token_bytes : (text : List ℕ) (token : Token) → IsTokenOf text token → lexed.bytes_of text token ≡ slice_range text token.start token.end
token_bytes text token is =
    let some : token.start < token.end = is.some in
    let within : token.end ≤ length text = is.within in
    let one : nat_le token.start token.end ≡ true = grind (arith, nat_tests) in
    let two : nat_le token.end (length text) ≡ true = grind (arith, nat_tests) in
    rw (one, two) refl

-- a full IRI has bytes that pass between its brackets
pub full_passes : (text : List ℕ) (token : Token) → IsTokenOf text token → token.kind ≡ kind.FullIri → All Passes (iri_between text token)
full_passes text token is k =
    let form = subst (λ (t : TokenKind). HasForm t (lexed.bytes_of text token)) k is.form in
    let inner = form.0 in
    let between = between_brackets text token.start token.end inner is.some is.within (sym (token_bytes text token is) ∙ form.2) in
    let passes = All-weaker (λ b. lex.is_iri_byte b ≡ true) Passes full_byte inner (All-from_recursion (λ b. lex.is_iri_byte b ≡ true) inner form.1) in
    by (nat_lt token.start token.end) (piece_passes text (token.start + 1) (token.end - 1) (subst (All Passes) (sym between) passes))
  where
    by : (b : Bool) → All Passes (piece text (token.start + 1) (token.end - 1)) → All Passes (cond b (piece text (token.start + 1) (token.end - 1)) [])
    by true h = h
    by false h = All-nil Passes

-- a run has bytes that pass
run_passes : (text : List ℕ) (token : Token) → IsTokenOf text token → token.kind ≡ kind.Run → All Passes (spelling text token)
run_passes text token is k =
    let form = subst (λ (t : TokenKind). HasForm t (lexed.bytes_of text token)) k is.form in
    let bytes = slice_range text token.start token.end in
    let same = token_bytes text token is in
    piece_passes text token.start token.end
    (All-weaker (λ b. lex.is_run_byte b ≡ true) Passes run_byte bytes (All-from_recursion (λ b. lex.is_run_byte b ≡ true) bytes (subst (AllByRecursion (λ b. lex.is_run_byte b ≡ true)) same form.1)))

-- the IRIs of prefixes pass
abbrev pub HavePassing : Prefixes → Type 0
HavePassing prefixes = All (λ both. All Passes both.1) prefixes

-- what holds of a value that is found
found_passes : (o : Option (List ℕ)) (held : List ℕ) → o ≡ Some held → IfSome o (All Passes) → All Passes held
found_passes o held e h = subst (λ (q : Option (List ℕ)). IfSome q (All Passes)) e h

-- the IRI that a token stands for passes
pub iri_passes : (text : List ℕ) (prefixes : Prefixes) (token : Token) (iri : List ℕ) → HavePassing prefixes → IsTokenOf text token → IsIri text prefixes token iri → All Passes iri
iri_passes text prefixes token _ held is (full iri k between) = subst (All Passes) (sym between) (full_passes text token is k)
iri_passes text prefixes token _ held is (short iri prefix k colon found whole) =
    let run = spelling text token in
    let rest : All Passes (rest_of run) = All-drop Passes (position_or_len is_colon run + 1) run (run_passes text token is k) in
    let first = found_passes (iri_of prefixes _) prefix found (All-lookup (All Passes) _ prefixes held) in
    subst (All Passes) (sym whole) (All-append Passes prefix (rest_of run) first rest)
