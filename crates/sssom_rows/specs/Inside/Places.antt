-- Where the read columns stand.
use Rattle.std.specs.Prelude.{◌≡◌, ℕ, ◌+◌, if◌then◌else◌, List, [], ◌∷◌, bytes_eq, slice_index_or, Option, Some, None}
use Rattle.sssom_rows.specs.declared.column.Column.{Column}
use Rattle.sssom_rows.specs.declared.column.Column.TheVariants.{Subject, Predicate, Object, Confidence, Modifier}
use Rattle.sssom_rows.specs.declared.places.Places.{Places}
use Rattle.sssom_rows.specs.Records.{FieldList}
use Rattle.sssom_rows.specs.Columns.{column_name}

-- the place of the first column with this name, where n columns come before these
abbrev pub place_from : List ℕ → ℕ → FieldList → Option ℕ
place_from name n [] = None
place_from name n (column ∷ columns) = if bytes_eq name column then Some n else place_from name (n + 1) columns

abbrev pub place_in : List ℕ → FieldList → Option ℕ
place_in name columns = place_from name 0 columns

-- the field at a place; no bytes if there is none
abbrev pub field_in : Option ℕ → FieldList → List ℕ
field_in None fields = []
field_in (Some place) fields = slice_index_or fields place []

-- the place of a column
abbrev pub place_of : Places → Column → Option ℕ
place_of places Subject = places.subject
place_of places Predicate = places.predicate
place_of places Object = places.object
place_of places Confidence = places.confidence
place_of places Modifier = places.modifier

pub record ArePlaces (columns : FieldList) (places : Places) : Type 0 where
  pub subject : places.subject ≡ place_in (column_name Subject) columns
  pub predicate : places.predicate ≡ place_in (column_name Predicate) columns
  pub object : places.object ≡ place_in (column_name Object) columns
  pub confidence : places.confidence ≡ place_in (column_name Confidence) columns
  pub modifier : places.modifier ≡ place_in (column_name Modifier) columns
