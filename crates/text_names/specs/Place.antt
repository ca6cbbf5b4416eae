-- Where in a text a front of it ends.
use Rattle.std.specs.Prelude.{◌≡◌, ◌<◌, ◌⊎◌, ℕ, ◌+◌, ◌-◌, ◌^◌, List, length, min, count_by}
use Rattle.std.specs.List.{after_last}
use Rattle.std.specs.Str.{chars}
use Rattle.byte_words.specs.Bytes.{is_line_feed}
use Rattle.text_names.specs.declared.place.Place.{Place}

-- a number in 64 bits, which stops at the greatest
abbrev pub in_64_bits : ℕ → ℕ
in_64_bits n = min n (2 ^ 64 - 1)

-- the line after these characters: one more than the line feeds among them
abbrev pub line_after : List ℕ → ℕ
line_after cs = 1 + count_by is_line_feed cs

-- the column after these characters: one more than those since the last line feed
abbrev pub column_after : List ℕ → ℕ
column_after cs = 1 + length (after_last is_line_feed cs)

-- the place after the bytes of a text, counted in its characters
abbrev pub place_after : List ℕ → Place
place_after bytes = record { line = in_64_bits (line_after (chars bytes)); column = in_64_bits (column_after (chars bytes)) }

-- the place stands before the other: on an earlier line, or on the same line in an earlier column
abbrev pub IsPlaceBefore : Place → Place → Type 0
IsPlaceBefore a b = (a.line < b.line) ⊎ ((a.line ≡ b.line) × (a.column < b.column))
