-- How tokens are read: what each is to the items, and the first fault of brackets.
use Rattle.std.specs.Prelude.{◌≡◌, ℕ, ◌+◌, ◌-◌, ◌&&◌, ◌==◌, nat_lt, if◌then◌else◌, List, [], ◌∷◌, ◌++◌, Option, Some, None}
use Rattle.byte_words.specs.Faults.{OrOutOfMemory}
use Rattle.ofn_lex.specs.declared.token.Token.{Token}
use Rattle.ofn_lex.specs.Texts.{HasTokens}
use Rattle.ofn_term.specs.declared.fault.TermFault.{TermFault}
use Rattle.ofn_term.specs.declared.fault.TermFault.TheVariants as fault
use Rattle.ofn_term.specs.declared.item.Item.{Item}
use Rattle.ofn_term.specs.Words.{is_open, is_close, is_word, begins_open}
use Rattle.ofn_term.specs.Texts.{term_ran_out}
use Rattle.ofn_term.specs.Writing.{Piece, opening, closing, head, atom, opening_pieces, pieces}
use Rattle.ofn_term.specs.Inside.TokenReading.{Begins}

-- a word directly before an opening bracket is a head
abbrev pub piece_of : List ℕ → Token → List Token → Piece
piece_of text token behind =
    if is_open token then opening token.start else
    if is_close token then closing token.end else
    if is_word text token && begins_open behind then head token else atom token

abbrev pub pieces_of : List ℕ → List Token → List Piece
pieces_of text [] = []
pieces_of text (token ∷ tokens) = piece_of text token tokens ∷ pieces_of text tokens

-- the first open bracket, if one more opens at start
abbrev pub first_open : ℕ → ℕ → ℕ → ℕ
first_open depth first start = if depth == 0 then start else first

-- the first fault of the tokens, where depth brackets are open before them, the first of these at
-- first, and at most most may be open
abbrev pub bracket_fault : ℕ → ℕ → ℕ → List Token → Option TermFault
bracket_fault most depth first [] = if depth == 0 then None else Some (fault.Unclosed first)
bracket_fault most depth first (token ∷ tokens) =
    if is_open token then
    (if nat_lt depth most then
    bracket_fault most (depth + 1) (first_open depth first token.start) tokens else
    Some (fault.TooDeep token.start)) else
    if is_close token then
    (if depth == 0 then Some (fault.Unopened token.start) else
    bracket_fault most (depth - 1) first tokens) else
    bracket_fault most depth first tokens

-- the fault is this one, unless memory ran out
abbrev pub IsFaultUnlessMemory : Option TermFault → TermFault → Type 0
IsFaultUnlessMemory expected found =
    OrOutOfMemory term_ran_out (λ other. expected ≡ Some other) found

-- a token and what is behind it open a group: a bracket with the word before it, and what is inside
pub record IsOpening (text : List ℕ) (token : Token) (behind : List Token) (word : Option Token)
    (bracket : Token) : Type 0 where
  pub inside : List Token
  pub has : HasTokens text bracket.end inside None
  pub spelled : pieces_of text (token ∷ behind) ≡
      opening_pieces word bracket.start ++ pieces_of text inside
  pub faults : (most depth first : ℕ) → bracket_fault most depth first (token ∷ behind) ≡
      bracket_fault most depth first (bracket ∷ inside)

-- tokens are read into items up to one of them, and there brackets are as before
pub record IsReadTo (text : List ℕ) (most depth first : ℕ) (tokens : List Token) (items : List Item)
    (there : Option Token) : Type 0 where
  pub rest : List Token
  pub begins : Begins text there rest
  pub spelled : pieces_of text tokens ≡ pieces items ++ pieces_of text rest
  pub faults : bracket_fault most depth first tokens ≡ bracket_fault most depth first rest

-- a bracket is read with the items inside and its partner, and brackets are as before it
pub record IsGroupRead (text : List ℕ) (most depth first : ℕ) (bracket : Token)
    (behind : List Token) (items : List Item) (end : ℕ) (there : Option Token) : Type 0 where
  pub rest : List Token
  pub begins : Begins text there rest
  pub spelled : pieces_of text behind ≡ pieces items ++ closing end ∷ pieces_of text rest
  pub faults : bracket_fault most depth first (bracket ∷ behind) ≡
      bracket_fault most depth first rest
