-- Lines of axioms that are left out: how each is spelled and read, and their order.
use Rattle.std.specs.Prelude.{ℕ, ◌<◌, ◌^◌, ◌==◌, nat_lt, Bool, true, false, ◌&&◌, ◌||◌, [], ◌∷◌, decimal, Option, None}
use Rattle.el_logic.specs.declared.types.Side.{Side}
use Rattle.el_logic.specs.declared.types.Side.TheVariants as side
use Rattle.text_names.specs.declared.place.Place.{Place}
use Rattle.ofn_heads.specs.declared.outside.HeadId.{HeadId}
use Rattle.ofn_heads.specs.Heads.{name_of, id_named}
use Rattle.line_fields.specs.Lines.{Fields}
use Rattle.line_fields.specs.Reading.{◌>>=◌, with_rest, long_in}
use Rattle.evidence_lines.specs.declared.types.SidedOmitted.{SidedOmitted}
use Rattle.evidence_lines.specs.Names.{side_word, side_in, if_end}

abbrev pub omitted_fields : SidedOmitted → Fields
omitted_fields o =
    side_word o.side ∷ decimal o.omitted.place.line ∷ decimal o.omitted.place.column
    ∷ name_of o.omitted.head ∷ []

-- the place comes earlier in its text
abbrev pub is_earlier : Place → Place → Bool
is_earlier p q = nat_lt p.line q.line || (p.line == q.line && nat_lt p.column q.column)

-- LEFT's first, in order of the text
abbrev pub by_sides : Side → Side → Bool → Bool
by_sides side.Left side.Left earlier = earlier
by_sides side.Left side.Right earlier = true
by_sides side.Right side.Left earlier = false
by_sides side.Right side.Right earlier = earlier

abbrev pub omitted_before : SidedOmitted → SidedOmitted → Bool
omitted_before o p = by_sides o.side p.side (is_earlier o.omitted.place p.omitted.place)

abbrev pub head_in : Fields → Option (HeadId × Fields)
head_in [] = None
head_in (word ∷ rest) = with_rest rest (id_named word)

abbrev pub sided : Side → ℕ → ℕ → HeadId → SidedOmitted
sided side line column head =
    record {
      side = side;
      omitted = record { place = record { line = line; column = column }; head = head };
    }

-- the axiom that a line with these fields is
unfoldable pub omitted_of : Fields → Option SidedOmitted
omitted_of fields = do
  side ← side_in fields
  line ← long_in side.1
  column ← long_in line.1
  head ← head_in column.1
  if_end head.1 (sided side.0 line.0 column.0 head.0)

-- the numbers of a place are below 2 ^ 64
pub record ArePlaceNumbers (o : SidedOmitted) : Type 0 where
  pub line : o.omitted.place.line < 2 ^ 64
  pub column : o.omitted.place.column < 2 ^ 64
