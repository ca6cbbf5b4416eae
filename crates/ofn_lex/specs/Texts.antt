-- A text as gaps and tokens in turn.
use Rattle.std.specs.Prelude.{◌≡◌, ◌≤◌, ◌<◌, ℕ, ◌+◌, ◌&&◌, nat_le, if◌then◌else◌, List, [], ◌∷◌, ◌++◌, length, drop, slice_range, false, Option, Some, None, Result, Ok, Err, ⊤}
use Rattle.std.specs.List.{AllByRecursion}
use Rattle.std.specs.Str.{IsCharBoundary}
use Rattle.ofn_lex.specs.Bytes.{begins_gap}
use Rattle.ofn_lex.specs.Forms.{GapPart, gap_bytes, IsGap, HasForm}
use Rattle.ofn_lex.specs.declared.token.TokenKind.{TokenKind}
use Rattle.ofn_lex.specs.declared.token.Token.{Token}
use Rattle.ofn_lex.specs.declared.token.LexFault.{LexFault}

-- no token with which the bytes begin is longer than n
abbrev pub NoneLonger : ℕ → List ℕ → Type 0
NoneLonger n bytes = (kind : TokenKind) (front others : List ℕ) → HasForm kind front → bytes ≡ front ++ others → length front ≤ n

-- the bytes begin with no token
abbrev pub BeginsNone : List ℕ → Type 0
BeginsNone bytes = (kind : TokenKind) (front others : List ℕ) → HasForm kind front → bytes ≡ front ++ others → ⊥

-- after a gap stands this token, the longest there
pub record IsNext (text : List ℕ) (from : ℕ) (token : Token) : Type 0 where
  pub gap : List GapPart
  pub own : List ℕ
  pub rest : List ℕ
  pub whole : drop from text ≡ gap_bytes gap ++ (own ++ rest)
  pub passed : IsGap gap (own ++ rest)
  pub form : HasForm token.kind own
  pub longest : NoneLonger (length own) (own ++ rest)
  pub starts : token.start ≡ from + length (gap_bytes gap)
  pub ends : token.end ≡ token.start + length own

-- nothing but a gap is left
pub record IsAtEnd (text : List ℕ) (from : ℕ) : Type 0 where
  pub gap : List GapPart
  pub whole : drop from text ≡ gap_bytes gap
  pub passed : IsGap gap []

-- after a gap stands a byte that begins neither a gap nor a token
pub record IsStuck (text : List ℕ) (from : ℕ) (fault : LexFault) : Type 0 where
  pub gap : List GapPart
  pub byte : ℕ
  pub rest : List ℕ
  pub whole : drop from text ≡ gap_bytes gap ++ byte ∷ rest
  pub passed : IsGap gap (byte ∷ rest)
  pub no_gap : begins_gap byte ≡ false
  pub no_token : BeginsNone (byte ∷ rest)
  pub offset : fault.offset ≡ from + length (gap_bytes gap)

-- what the format has at an offset
abbrev pub IsAnswer : List ℕ → ℕ → Result (Option Token) LexFault → Type 0
IsAnswer text from (Ok None) = IsAtEnd text from
IsAnswer text from (Ok (Some token)) = IsNext text from token
IsAnswer text from (Err fault) = IsStuck text from fault

-- what follows the last token: a gap to the end of the text, or a fault
abbrev pub IsLast : List ℕ → ℕ → Option LexFault → Type 0
IsLast text from None = IsAtEnd text from
IsLast text from (Some fault) = IsStuck text from fault

-- from the offset on, gaps and these tokens in turn, and then what is last
abbrev pub HasTokens : List ℕ → ℕ → List Token → Option LexFault → Type 0
HasTokens text from [] last = IsLast text from last
HasTokens text from (token ∷ tokens) last = IsNext text from token × HasTokens text token.end tokens last

-- gaps and tokens in turn from the offset on, to the end of the text or a fault
pub record HasReading (text : List ℕ) (from : ℕ) : Type 0 where
  pub tokens : List Token
  pub last : Option LexFault
  pub has : HasTokens text from tokens last

-- what is read begins and ends where characters of the text do
abbrev pub CutsAtCharacters : List ℕ → Result (Option Token) LexFault → Type 0
CutsAtCharacters text (Ok None) = ⊤
CutsAtCharacters text (Ok (Some token)) = IsCharBoundary text token.start × IsCharBoundary text token.end
CutsAtCharacters text (Err fault) = IsCharBoundary text fault.offset

-- the bytes of a token, or none where it is not within the text
abbrev pub bytes_of : List ℕ → Token → List ℕ
bytes_of text token = if nat_le token.start token.end && nat_le token.end (length text) then slice_range text token.start token.end else []

-- the token takes up one byte or more of the text, and these have the form of its kind
pub record IsTokenOf (text : List ℕ) (token : Token) : Type 0 where
  pub some : token.start < token.end
  pub within : token.end ≤ length text
  pub form : HasForm token.kind (bytes_of text token)

-- each token ends at or before the start of each later one
abbrev pub StandInOrder : List Token → Type 0
StandInOrder [] = ⊤
StandInOrder (token ∷ tokens) = AllByRecursion (λ later. token.end ≤ later.start) tokens × StandInOrder tokens
