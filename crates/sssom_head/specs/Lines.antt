-- The header lines of a table, and their contents.
use Rattle.std.specs.Prelude.{◌≡◌, ◌≤◌, ◌⊎◌, ℕ, ◌+◌, ◌-◌, ◌==◌, Bool, false, ◌&&◌, ◌||◌, if◌then◌else◌, List, [], ◌∷◌, ◌++◌, length, take, drop, map, bytes_eq, ⊤}
use Rattle.byte_words.specs.Bytes.{is_line_feed, is_space}
use Rattle.byte_words.specs.Lists.{AllPassing, AllFailing}

-- a byte more before the first line
abbrev pub onto_line : ℕ → List (List ℕ) → List (List ℕ)
onto_line b [] = (b ∷ []) ∷ []
onto_line b (line ∷ lines) = (b ∷ line) ∷ lines

-- the lines of a text, each with the line feed that it ends with; the last may have none
abbrev pub lines_of : List ℕ → List (List ℕ)
lines_of [] = []
lines_of (b ∷ bs) = if is_line_feed b then (b ∷ []) ∷ lines_of bs else onto_line b (lines_of bs)

-- how many bytes the first line has
abbrev pub first_line_end : List ℕ → ℕ
first_line_end [] = 0
first_line_end (b ∷ bs) = if is_line_feed b then 1 else 1 + first_line_end bs

abbrev pub begins_with_hash : List ℕ → Bool
begins_with_hash [] = false
begins_with_hash (b ∷ bs) = b == 35

-- the lines from the start on that begin with #
abbrev pub hash_lines : List (List ℕ) → List (List ℕ)
hash_lines [] = []
hash_lines (line ∷ lines) = if begins_with_hash line then line ∷ hash_lines lines else []

abbrev pub header_lines : List ℕ → List (List ℕ)
header_lines text = hash_lines (lines_of text)

abbrev pub bytes_in : List (List ℕ) → ℕ
bytes_in [] = 0
bytes_in (line ∷ lines) = length line + bytes_in lines

-- the text without this end, if it has it
abbrev pub ends_with : List ℕ → List ℕ → Bool
ends_with back text = bytes_eq (drop (length text - length back) text) back

abbrev pub less_back : List ℕ → List ℕ → List ℕ
less_back back text = if ends_with back text then take (length text - length back) text else text

-- a line without its line feed, and without a carriage return before that
abbrev pub less_line_end : List ℕ → List ℕ
less_line_end line = if ends_with (10 ∷ []) line then less_back (13 ∷ []) (take (length line - 1) line) else line

abbrev pub is_space_or_tab : ℕ → Bool
is_space_or_tab b = is_space b || b == 9

-- how many bytes go up to the last that is neither a space nor a tab
abbrev pub trimmed_end : List ℕ → ℕ
trimmed_end [] = 0
trimmed_end (b ∷ bs) = if is_space_or_tab b && trimmed_end bs == 0 then 0 else 1 + trimmed_end bs

-- what follows the # of a line, without the line's end and without spaces and tabs before that
abbrev pub trimmed : List ℕ → List ℕ
trimmed text = take (trimmed_end text) text

abbrev pub content_of : List ℕ → List ℕ
content_of line = trimmed (less_line_end (drop 1 line))

-- the contents of the header lines
abbrev pub contents_of : List ℕ → List (List ℕ)
contents_of text = map content_of (header_lines text)

abbrev pub HasNoLineFeed : List ℕ → Type 0
HasNoLineFeed bytes = AllFailing is_line_feed bytes

-- bytes without a line feed, and then one
pub record IsWholeLine (line : List ℕ) : Type 0 where
  pub own : List ℕ
  pub no_feed : HasNoLineFeed own
  pub spelled : line ≡ own ++ 10 ∷ []

-- the last line has no line feed, but some bytes
pub record IsOpenLine (line : List ℕ) (later : List (List ℕ)) : Type 0 where
  pub last : later ≡ []
  pub some : 1 ≤ length line
  pub no_feed : HasNoLineFeed line

-- each line ends with its only line feed; the last may have none
abbrev pub AreLines : List (List ℕ) → Type 0
AreLines [] = ⊤
AreLines (line ∷ lines) = (IsWholeLine line ⊎ IsOpenLine line lines) × AreLines lines

-- the text is this front and then only spaces and tabs, and the front ends with neither
pub record IsTrimmed (text front : List ℕ) : Type 0 where
  pub blank : List ℕ
  pub whole : text ≡ front ++ blank
  pub spaces : AllPassing is_space_or_tab blank
  pub last : (before : List ℕ) (b : ℕ) → front ≡ before ++ b ∷ [] → is_space_or_tab b ≡ false
