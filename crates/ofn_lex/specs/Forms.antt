-- The forms of gaps and tokens, as the format has them.
use Rattle.std.specs.Prelude.{◌≡◌, ◌≤◌, ℕ, List, [], ◌∷◌, ◌++◌, length, true, false, ⊤}
use Rattle.std.specs.List.{AllByRecursion}
use Rattle.byte_words.specs.Lists.{AllPassing, AllFailing}
use Rattle.ofn_lex.specs.Bytes.{ends_line, is_white_space, is_iri_byte, is_escaped, is_language_byte, is_run_byte}
use Rattle.ofn_lex.specs.declared.token.TokenKind.{TokenKind}
use Rattle.ofn_lex.specs.declared.token.TokenKind.TheVariants.{Open, Close, Equals, FullIri, Quoted, Lang, Carets, Run}

-- one byte of white space, or a comment: # and what follows it
pub data GapPart : Type 0 where
  white : (b : ℕ) → GapPart
  comment : (inner : List ℕ) → GapPart

abbrev pub part_bytes : GapPart → List ℕ
part_bytes (white b) = b ∷ []
part_bytes (comment inner) = 35 ∷ inner

abbrev pub gap_bytes : List GapPart → List ℕ
gap_bytes [] = []
gap_bytes (part ∷ parts) = part_bytes part ++ gap_bytes parts

-- the bytes are none, or a line ends with the first
abbrev pub EndsLine : List ℕ → Type 0
EndsLine [] = ⊤
EndsLine (b ∷ bs) = ends_line b ≡ true

-- the parts are a gap before the rest of a text: a comment goes on to the end of its line or of the text
abbrev pub IsGap : List GapPart → List ℕ → Type 0
IsGap [] rest = ⊤
IsGap (white b ∷ parts) rest = (is_white_space b ≡ true) × IsGap parts rest
IsGap (comment inner ∷ parts) rest = AllFailing ends_line inner × EndsLine (gap_bytes parts ++ rest) × IsGap parts rest

-- a byte of a quoted text that is neither " nor \, or one of these two after \
pub data QuotedPart : Type 0 where
  plain : (b : ℕ) → QuotedPart
  escaped : (b : ℕ) → QuotedPart

abbrev pub IsQuotedPart : QuotedPart → Type 0
IsQuotedPart (plain b) = is_escaped b ≡ false
IsQuotedPart (escaped b) = is_escaped b ≡ true

abbrev pub quoted_bytes : List QuotedPart → List ℕ
quoted_bytes [] = []
quoted_bytes (plain b ∷ parts) = b ∷ quoted_bytes parts
quoted_bytes (escaped b ∷ parts) = 92 ∷ b ∷ quoted_bytes parts

-- the bytes are a token of the kind
abbrev pub HasForm : TokenKind → List ℕ → Type 0
HasForm Open bytes = bytes ≡ 40 ∷ []
HasForm Close bytes = bytes ≡ 41 ∷ []
HasForm Equals bytes = bytes ≡ 61 ∷ []
HasForm FullIri bytes = (inner : List ℕ) × AllPassing is_iri_byte inner × (bytes ≡ 60 ∷ (inner ++ 62 ∷ []))
HasForm Quoted bytes = (parts : List QuotedPart) × AllByRecursion IsQuotedPart parts × (bytes ≡ 34 ∷ (quoted_bytes parts ++ 34 ∷ []))
HasForm Lang bytes = (inner : List ℕ) × (1 ≤ length inner) × AllPassing is_language_byte inner × (bytes ≡ 64 ∷ inner)
HasForm Carets bytes = bytes ≡ 94 ∷ 94 ∷ []
HasForm Run bytes = (1 ≤ length bytes) × AllPassing is_run_byte bytes
