-- Texts of lines, and lines of fields.
use Rattle.std.specs.Prelude.{◌≢◌, ℕ, Bool, ◌||◌, List, [], ◌∷◌, ◌++◌}
use Rattle.std.specs.List.{AllByRecursion, flat_map}
use Rattle.byte_words.specs.Bytes.{is_space, is_line_feed}
use Rattle.byte_words.specs.Lists.{AllFailing}

-- a field is its bytes
abbrev pub Field : Type 0
Field = List ℕ

-- the fields of a line
abbrev pub Fields : Type 0
Fields = List Field

-- fields, each after a space
abbrev pub spaced : Fields → List ℕ
spaced [] = []
spaced (field ∷ fields) = 32 ∷ (field ++ spaced fields)

-- fields with a space between two
abbrev pub joined : Fields → List ℕ
joined [] = []
joined (field ∷ fields) = field ++ spaced fields

-- a line: its fields with a space between two, and a line feed
abbrev pub line : Fields → List ℕ
line fields = joined fields ++ 10 ∷ []

-- lines, one after another
abbrev pub text_of : List Fields → List ℕ
text_of lines = flat_map line lines

-- a byte that may not be in a field: a space or a line feed
abbrev pub parts_fields : ℕ → Bool
parts_fields b = is_space b || is_line_feed b

-- bytes without a space and a line feed
abbrev pub IsField : List ℕ → Type 0
IsField bytes = AllFailing parts_fields bytes

-- one field or more
pub record IsLine (fields : Fields) : Type 0 where
  pub some : fields ≢ []
  pub each : AllByRecursion IsField fields
