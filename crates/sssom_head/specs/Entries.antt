-- The entries of a map of prefixes, as they are written.
use Rattle.std.specs.Prelude.{◌≡◌, ◌≤◌, ℕ, ◌==◌, Bool, true, false, not, ◌&&◌, ◌||◌, List, [], ◌∷◌, ◌++◌, length, replicate, Option, Some, None, ⊤, IsUtf8, codes}
use Rattle.byte_words.specs.Bytes.{is_space, is_one_of, is_letter_or_digit}
use Rattle.byte_words.specs.Lists.{AllPassing}
use Rattle.sssom_head.specs.Contents.{behind_spaces}

-- ' or "
abbrev pub is_quote : ℕ → Bool
is_quote b = is_one_of (codes "'\"") b

-- any byte but the quote itself, and between two " no \ either
abbrev pub is_quoted_byte : ℕ → ℕ → Bool
is_quoted_byte quote b = not (b == quote) && not (quote == 34 && b == 92)

-- an ASCII letter or digit, or one of _ . -
abbrev pub is_key_byte : ℕ → Bool
is_key_byte b = is_letter_or_digit b || is_one_of (codes "_.-") b

-- an indicator of YAML, with which no plain value begins
abbrev pub is_indicator : ℕ → Bool
is_indicator b = is_one_of (codes "[]{},&*!|>%@#'\"`") b

abbrev pub is_value_byte : ℕ → Bool
is_value_byte b = not (is_space b)

-- a key or a value, as it stands or between quotes
pub data Word : Type 0 where
  plain : (bytes : List ℕ) → Word
  quoted : (quote : ℕ) (bytes : List ℕ) → Word

abbrev pub word_text : Word → List ℕ
word_text (Word.plain bytes) = bytes
word_text (Word.quoted quote bytes) = quote ∷ (bytes ++ quote ∷ [])

abbrev pub word_bytes : Word → List ℕ
word_bytes (Word.plain bytes) = bytes
word_bytes (Word.quoted quote bytes) = bytes

abbrev pub IsQuoted : ℕ → List ℕ → Type 0
IsQuoted quote bytes = (is_quote quote ≡ true) × AllPassing (is_quoted_byte quote) bytes

abbrev pub IsKey : Word → Type 0
IsKey (Word.plain bytes) = (1 ≤ length bytes) × AllPassing is_key_byte bytes
IsKey (Word.quoted quote bytes) = IsQuoted quote bytes

-- one byte or more, the first of which is no indicator
abbrev pub BeginsValue : List ℕ → Type 0
BeginsValue [] = ⊥
BeginsValue (b ∷ bs) = is_indicator b ≡ false

abbrev pub IsValue : Word → Type 0
IsValue (Word.plain bytes) = BeginsValue bytes × AllPassing is_value_byte bytes
IsValue (Word.quoted quote bytes) = IsQuoted quote bytes

pub record Comment : Type 0 where
  pub spaces : ℕ
  pub inner : List ℕ

abbrev pub comment_text : Option Comment → List ℕ
comment_text None = []
comment_text (Some comment) = replicate comment.spaces 32 ++ 35 ∷ comment.inner

abbrev pub IsComment : Option Comment → Type 0
IsComment None = ⊤
IsComment (Some comment) = 1 ≤ comment.spaces

-- a key, a colon, spaces, a value and perhaps a comment after spaces
pub record Entry : Type 0 where
  pub key : Word
  pub spaces : ℕ
  pub value : Word
  pub comment : Option Comment

abbrev pub entry_text : Entry → List ℕ
entry_text e = word_text e.key ++ 58 ∷ (replicate e.spaces 32 ++ (word_text e.value ++ comment_text e.comment))

-- the content is an entry with this key and this value
pub record IsEntry (content key value : List ℕ) : Type 0 where
  pub entry : Entry
  pub spelled : behind_spaces content ≡ entry_text entry
  pub key_form : IsKey entry.key
  pub space : 1 ≤ entry.spaces
  pub value_form : IsValue entry.value
  pub comment_form : IsComment entry.comment
  pub key_is : key ≡ word_bytes entry.key
  pub value_is : value ≡ word_bytes entry.value
  pub utf8 : IsUtf8 content
