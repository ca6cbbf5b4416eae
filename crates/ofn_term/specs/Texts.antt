-- What a text has: items, or a first fault.
use Rattle.std.specs.Prelude.{ℕ, Bool, true, false, List, Option, Some, None, IfSome}
use Rattle.byte_words.specs.Faults.{OrOutOfMemory}
use Rattle.std.specs.Str.{IsCharBoundary}
use Rattle.ofn_lex.specs.declared.token.Token.{Token}
use Rattle.ofn_lex.specs.Texts.{HasTokens}
use Rattle.ofn_term.specs.declared.fault.TermFault.{TermFault}
use Rattle.ofn_term.specs.declared.fault.TermFault.TheVariants as fault
use Rattle.ofn_term.specs.declared.item.Item.{Item}
use Rattle.ofn_term.specs.Brackets.{StayWithin, IsUnopened, IsUnclosed, IsTooDeep}
use Rattle.ofn_term.specs.Writing.{StandFor}

-- the text has tokens to its end, with at most so many brackets open, and the items stand for them
pub record HasItems (text : List ℕ) (most : ℕ) (items : List Item) : Type 0 where
  pub tokens : List Token
  pub read : HasTokens text 0 tokens None
  pub within : StayWithin most tokens
  pub stand : StandFor text items tokens

-- the text has tokens to its end, with a fault of brackets
abbrev pub FailsIn : List ℕ → (List Token → ℕ → Type 0) → ℕ → Type 0
FailsIn text IsFaultAt offset =
    (tokens : List Token) × HasTokens text 0 tokens None × IsFaultAt tokens offset

-- the first fault of the text: of its tokens, or else of their brackets
abbrev pub HasFault : List ℕ → ℕ → TermFault → Type 0
HasFault text most (fault.Lex offset) =
    (tokens : List Token) × HasTokens text 0 tokens (Some (record { offset = offset }))
HasFault text most (fault.Unopened offset) = FailsIn text (IsUnopened most) offset
HasFault text most (fault.Unclosed offset) = FailsIn text (IsUnclosed most) offset
HasFault text most (fault.TooDeep offset) = FailsIn text (IsTooDeep most) offset
HasFault text most fault.OutOfMemory = ⊥

-- memory ran out
abbrev pub term_ran_out : TermFault → Bool
term_ran_out fault.OutOfMemory = true
term_ran_out _ = false

-- the first fault of the text, unless memory ran out
abbrev pub IsFirstFault : List ℕ → ℕ → TermFault → Type 0
IsFirstFault text most found = OrOutOfMemory term_ran_out (HasFault text most) found

-- the text has items or a first fault
pub data HasAnswer (text : List ℕ) (most : ℕ) : Type 0 where
  reads : (items : List Item) → HasItems text most items → HasAnswer text most
  fails : (f : TermFault) → HasFault text most f → HasAnswer text most

-- a token begins and ends where characters of the text do
abbrev pub IsOfCharacters : List ℕ → Token → Type 0
IsOfCharacters text token = IsCharBoundary text token.start × IsCharBoundary text token.end

-- the offset that a fault names
abbrev pub offset_of : TermFault → Option ℕ
offset_of (fault.Lex offset) = Some offset
offset_of (fault.Unopened offset) = Some offset
offset_of (fault.Unclosed offset) = Some offset
offset_of (fault.TooDeep offset) = Some offset
offset_of fault.OutOfMemory = None

-- a fault names an offset where a character of the text begins, or its end
abbrev pub IsAtCharacter : List ℕ → TermFault → Type 0
IsAtCharacter text found = IfSome (offset_of found) (IsCharBoundary text)
