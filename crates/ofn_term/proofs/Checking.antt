-- The tokens that are passed so far.
use Rattle.std.proofs.Common.{◌≡◌, ◌≤◌, ◌<◌, ℕ, List, [], ◌∷◌, ◌++◌, length, All, IsUtf8, IsCharBoundary, subst, sym, append-nil, append_assoc, length-append, refl, arith}
use Rattle.std.specs.Prelude.{Option, Some, None, Result, Ok, Err}
use Rattle.std.proofs.lemmas.List.Elements.{All-nil, All-cons, All-append}
use Rattle.std.proofs.lemmas.Str.{IsCharBoundary-start}
use Rattle.ofn_lex.specs.declared.token.Token.{Token}
use Rattle.ofn_lex.specs.declared.token.LexFault.{LexFault}
use Rattle.ofn_lex.specs.NextToken.{next_of}
use Rattle.ofn_lex.specs.Texts.{IsNext, IsAnswer, HasTokens}
use Rattle.ofn_term.specs.Texts.{IsOfCharacters}
use Rattle.ofn_term.specs.Inside.TokenReading.{AreAllTokens, Begins}

-- the text has these tokens up to an offset, no more than bytes, and each stands where characters do
pub record AreTokensTo (text : List ℕ) (at : ℕ) : Type 0 where
  pub tokens : List Token
  pub within : at ≤ length text
  pub so_far : (others : List Token) (last : Option LexFault) → HasTokens text at others last → HasTokens text 0 (tokens ++ others) last
  pub few : length tokens ≤ at
  pub at_character : IsUtf8 text → IsCharBoundary text at
  pub of_characters : IsUtf8 text → All (IsOfCharacters text) tokens

-- nothing is passed yet
pub none_passed : (text : List ℕ) → AreTokensTo text 0
none_passed text = record {
  tokens = [];
  within = omega arith;
  so_far = λ others last has. has;
  few = omega arith;
  at_character = λ utf8. IsCharBoundary-start text utf8;
  of_characters = λ utf8. All-nil (IsOfCharacters text);
}

-- one token more, after those that are passed
one_more : (text : List ℕ) (tokens : List Token) (token : Token) (others : List Token) (last : Option LexFault) →
    HasTokens text 0 (tokens ++ token ∷ others) last → HasTokens text 0 ((tokens ++ token ∷ []) ++ others) last
one_more text tokens token others last = subst (λ (ts : List Token). HasTokens text 0 ts last) (sym (append_assoc tokens (token ∷ []) others))

-- one token more stands where characters do
one_more_of_characters : (text : List ℕ) (tokens : List Token) (token : Token) → All (IsOfCharacters text) tokens → IsOfCharacters text token → All (IsOfCharacters text) (tokens ++ token ∷ [])
one_more_of_characters text tokens token all here =
    All-append (IsOfCharacters text) tokens (token ∷ []) all (All-cons (IsOfCharacters text) token [] here (All-nil (IsOfCharacters text)))

-- one token more takes up a byte
one_more_fits : (tokens : List Token) (token : Token) (at : ℕ) → length tokens ≤ at → at ≤ token.start → token.start < token.end → length (tokens ++ token ∷ []) ≤ token.end
one_more_fits tokens token at few from past = omega (arith, length-append tokens (token ∷ []))

-- one token more is passed
pub one_more_passed : (text : List ℕ) (at : ℕ) (token : Token) → AreTokensTo text at → IsNext text at token →
    (at ≤ token.start) × (token.start < token.end) → token.end ≤ length text →
    (IsUtf8 text → IsCharBoundary text at → IsOfCharacters text token) → AreTokensTo text token.end
one_more_passed text at token to next past within cut = record {
  tokens = to.tokens ++ token ∷ [];
  within = within;
  so_far = λ others last has. one_more text to.tokens token others last (to.so_far (token ∷ others) last (next, has));
  few = one_more_fits to.tokens token at to.few past.0 past.1;
  at_character = λ utf8. (cut utf8 (to.at_character utf8)).1;
  of_characters = λ utf8. one_more_of_characters text to.tokens token (to.of_characters utf8) (cut utf8 (to.at_character utf8));
}

-- no token is left, or none begins
pub all_passed : (text : List ℕ) (at : ℕ) (last : Option LexFault) (to : AreTokensTo text at) → HasTokens text at [] last → HasTokens text 0 to.tokens last
all_passed text at last to done = subst (λ (ts : List Token). HasTokens text 0 ts last) (append-nil to.tokens) (to.so_far [] last done)

-- the text has tokens to its end
pub to_the_end : (text : List ℕ) (at : ℕ) → AreTokensTo text at → HasTokens text at [] None → AreAllTokens text
to_the_end text at to done =
    let few = to.few in
    let within = to.within in
    record { tokens = to.tokens; has = all_passed text at None to done; few = omega arith; of_characters = to.of_characters }

-- what the text has at an offset is the one answer there
abbrev pub IsAlone : List ℕ → ℕ → Type 0
IsAlone text at = (answer : Result (Option Token) LexFault) → IsAnswer text at answer → next_of text at ≡ answer

-- the token that is read is the first
pub first_is_read : (text : List ℕ) (at : ℕ) (next : Option Token) (tokens : List Token) → IsAlone text at → Ok next ≡ next_of text at →
    HasTokens text at tokens None → Begins text next tokens
first_is_read text at next [] alone is has =
    let none : next_of text at ≡ Ok None = alone (Ok None) has in
    let same : next ≡ None = cc in
    subst (λ (o : Option Token). Begins text o []) (sym same) refl
first_is_read text at next (token ∷ tokens) alone is has =
    let some : next_of text at ≡ Ok (Some token) = alone (Ok (Some token)) has.0 in
    let same : next ≡ Some token = cc in
    subst (λ (o : Option Token). Begins text o (token ∷ tokens)) (sym same) (record { behind = tokens; whole = refl; has = has.1 })

-- no fault comes in a text that has tokens to its end
pub no_fault_is_read : (text : List ℕ) (at : ℕ) (fault : LexFault) (tokens : List Token) → IsAlone text at → Err fault ≡ next_of text at →
    HasTokens text at tokens None → ⊥
no_fault_is_read text at fault [] alone is has =
    let none : next_of text at ≡ Ok None = alone (Ok None) has in cc
no_fault_is_read text at fault (token ∷ tokens) alone is has =
    let some : next_of text at ≡ Ok (Some token) = alone (Ok (Some token)) has.0 in cc
