-- The lines of a text, as they are read.
use Rattle.std.specs.Prelude.{ℕ, Bool, true, false, List, [], ◌∷◌, Option, Some, None}
use Rattle.std.specs.List.{slice_split}
use Rattle.byte_words.specs.Bytes.{is_space, is_line_feed}
use Rattle.line_fields.specs.Lines.{Fields}
use Rattle.line_fields.specs.Numbers.{long_number, short_number}

-- the fields of a line: what its spaces part
abbrev pub fields_of : List ℕ → Fields
fields_of line = slice_split is_space line

-- what follows the last line feed: no line if it is empty, else a line that is not ended, which has
-- no fields
abbrev pub last_line : List ℕ → List Fields
last_line [] = []
last_line (b ∷ bs) = [] ∷ []

-- the lines by what line feeds part
abbrev pub lines_in : List (List ℕ) → List Fields
lines_in [] = []
lines_in (last ∷ []) = last_line last
lines_in (piece ∷ next ∷ pieces) = fields_of piece ∷ lines_in (next ∷ pieces)

-- the lines of a text, each by its fields; a last line that no line feed ends has none
abbrev pub lines_of : List ℕ → List Fields
lines_of text = lines_in (slice_split is_line_feed text)

-- a place between two lines: how many are read, and those that are left
pub record At : Type 0 where
  pub read : ℕ
  pub lines : List Fields

-- with the fields that are left
abbrev pub with_rest : {X : Type 0} → Fields → Option X → Option (X × Fields)
with_rest rest None = None
with_rest rest (Some x) = Some (x, rest)

-- a number below 2 ^ 64 in the next field, and one below 2 ^ 32
abbrev pub long_in : Fields → Option (ℕ × Fields)
long_in [] = None
long_in (field ∷ rest) = with_rest rest (long_number field)

abbrev pub short_in : Fields → Option (ℕ × Fields)
short_in [] = None
short_in (field ∷ rest) = with_rest rest (short_number field)

-- goes on with what is found
infixl 10 ◌>>=◌
abbrev pub ◌>>=◌ : {A B : Type 0} → Option A → (A → Option B) → Option B
None >>= next = None
(Some x) >>= next = next x

-- no field is left
abbrev pub is_end : Fields → Bool
is_end [] = true
is_end (field ∷ rest) = false
