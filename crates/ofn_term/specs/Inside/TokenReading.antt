-- How the tokens of a text are read, one at a time.
use Rattle.std.specs.Prelude.{◌≡◌, ◌≤◌, ℕ, List, [], ◌∷◌, length, Option, Some, None, All, IsUtf8}
use Rattle.ofn_lex.specs.declared.token.Token.{Token}
use Rattle.ofn_lex.specs.Texts.{HasTokens}
use Rattle.ofn_term.specs.declared.fault.TermFault.{TermFault}
use Rattle.ofn_term.specs.declared.fault.TermFault.TheVariants as fault
use Rattle.ofn_term.specs.Texts.{IsOfCharacters}

-- the text has tokens to its end, no more than bytes, and each stands where characters do
pub record AreAllTokens (text : List ℕ) : Type 0 where
  pub tokens : List Token
  pub has : HasTokens text 0 tokens None
  pub few : length tokens ≤ length text
  pub of_characters : IsUtf8 text → All (IsOfCharacters text) tokens

-- the text has tokens up to an offset at which none begins
abbrev pub IsLexFault : List ℕ → TermFault → Type 0
IsLexFault text (fault.Lex offset) =
    (tokens : List Token) × HasTokens text 0 tokens (Some (record { offset = offset }))
IsLexFault text _ = ⊥

-- the tokens begin with this one, and the text has the others from its end on
pub record IsFirst (text : List ℕ) (token : Token) (tokens : List Token) : Type 0 where
  pub behind : List Token
  pub whole : tokens ≡ token ∷ behind
  pub has : HasTokens text token.end behind None

-- the tokens begin with this one, or there are none
abbrev pub Begins : List ℕ → Option Token → List Token → Type 0
Begins text None tokens = tokens ≡ []
Begins text (Some token) tokens = IsFirst text token tokens
