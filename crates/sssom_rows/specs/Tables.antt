-- When bytes are the text of a table.
use Rattle.std.specs.Prelude.{◌≡◌, ◌≤◌, ℕ, ◌^◌, true, not, List, [], ◌∷◌, ◌++◌, length, Some, None, ⊤}
use Rattle.byte_words.specs.Fronts.{without_mark}
use Rattle.text_names.specs.Prefixes.{Prefixes}
use Rattle.sssom_head.specs.Contents.{is_empty_list}
use Rattle.sssom_head.specs.Heads.{IsHeadOf}
use Rattle.rank_order.specs.Decimal.{IsConfidence}
use Rattle.sssom_rows.specs.declared.column.Column.TheVariants.{Subject, Predicate, Object, Confidence, Modifier}
use Rattle.sssom_rows.specs.declared.table.Row.{Row}
use Rattle.sssom_rows.specs.declared.table.Table.{Table}
use Rattle.sssom_rows.specs.Records.{FieldList, AreTabbed, are_texts}
use Rattle.sssom_rows.specs.Columns.{first_missing, first_twice, field_of}
use Rattle.sssom_rows.specs.Ids.{id_in}

-- the bytes are a byte order mark or none, the header lines, by which these prefixes hold, and the text of these records
pub record AreParts (bytes head : List ℕ) (prefixes : Prefixes) (records : List FieldList) : Type 0 where
  pub rest : List ℕ
  pub whole : without_mark bytes ≡ head ++ rest
  pub header : IsHeadOf (without_mark bytes) (record { length = length head; prefixes = prefixes })
  pub records_are : AreTabbed rest records

-- the columns are UTF-8, the first three read columns are there, and no read column stands twice
pub record AreColumns (columns : FieldList) : Type 0 where
  pub texts : are_texts columns ≡ true
  pub complete : first_missing columns ≡ None
  pub once : first_twice columns ≡ None

-- the units of a confidence; no text counts as 1
abbrev pub HasUnits : List ℕ → ℕ → Type 0
HasUnits [] units = units ≡ 10 ^ 36
HasUnits (b ∷ bs) units = IsConfidence (b ∷ bs) units

-- a record has as many fields as there are columns, and each is UTF-8
pub record IsEven (columns fields : FieldList) : Type 0 where
  pub count : length fields ≡ length columns
  pub texts : are_texts fields ≡ true

-- the record with these fields is this row
pub record IsRow (prefixes : Prefixes) (columns fields : FieldList) (row : Row) : Type 0 where
  pub fields_are : row.fields ≡ fields
  pub even : IsEven columns fields
  pub subject : id_in prefixes (field_of columns fields Subject) ≡ Some row.subject
  pub predicate : id_in prefixes (field_of columns fields Predicate) ≡ Some row.predicate
  pub object : id_in prefixes (field_of columns fields Object) ≡ Some row.object
  pub confidence : HasUnits (field_of columns fields Confidence) row.confidence
  pub modified : row.modified ≡ not (is_empty_list (field_of columns fields Modifier))

-- the records are these rows, one after another
abbrev pub AreRows : Prefixes → FieldList → List FieldList → List Row → Type 0
AreRows prefixes columns [] [] = ⊤
AreRows prefixes columns [] (row ∷ rows) = ⊥
AreRows prefixes columns (fields ∷ records) [] = ⊥
AreRows prefixes columns (fields ∷ records) (row ∷ rows) = IsRow prefixes columns fields row × AreRows prefixes columns records rows

-- the bytes are the text of this table, which has so many rows at most
pub record IsTableText (most : ℕ) (bytes : List ℕ) (table : Table) : Type 0 where
  pub prefixes : Prefixes
  pub records : List FieldList
  pub parts : AreParts bytes table.head prefixes (table.columns ∷ records)
  pub columns : AreColumns table.columns
  pub few : length records ≤ most
  pub rows : AreRows prefixes table.columns records table.rows
