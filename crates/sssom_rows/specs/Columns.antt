-- The columns of a table that are read.
use Rattle.std.specs.Prelude.{ℕ, ◌+◌, ◌==◌, nat_lt, if◌then◌else◌, List, [], ◌∷◌, bytes_eq, codes, Option, Some, None}
use Rattle.sssom_rows.specs.declared.column.Column.{Column}
use Rattle.sssom_rows.specs.declared.column.Column.TheVariants.{Subject, Predicate, Object, Confidence, Modifier}
use Rattle.sssom_rows.specs.Records.{FieldList}

abbrev pub column_name : Column → List ℕ
column_name Subject = codes "subject_id"
column_name Predicate = codes "predicate_id"
column_name Object = codes "object_id"
column_name Confidence = codes "confidence"
column_name Modifier = codes "predicate_modifier"

-- how often a name stands among the columns
abbrev pub times : List ℕ → FieldList → ℕ
times name [] = 0
times name (column ∷ columns) = if bytes_eq name column then 1 + times name columns else times name columns

abbrev pub count_of : FieldList → Column → ℕ
count_of columns column = times (column_name column) columns

-- the first of the three columns that there must be and that is missing
abbrev pub first_missing : FieldList → Option Column
first_missing columns =
    if count_of columns Subject == 0 then Some Subject else
    if count_of columns Predicate == 0 then Some Predicate else
    if count_of columns Object == 0 then Some Object else None

-- the first of the read columns that stands more than once
abbrev pub first_twice : FieldList → Option Column
first_twice columns =
    if nat_lt 1 (count_of columns Subject) then Some Subject else
    if nat_lt 1 (count_of columns Predicate) then Some Predicate else
    if nat_lt 1 (count_of columns Object) then Some Object else
    if nat_lt 1 (count_of columns Confidence) then Some Confidence else
    if nat_lt 1 (count_of columns Modifier) then Some Modifier else None

-- the field of a record under the first column with this name; no bytes if there is none
abbrev pub field_under : List ℕ → FieldList → FieldList → List ℕ
field_under name [] fields = []
field_under name (column ∷ columns) [] = []
field_under name (column ∷ columns) (field ∷ fields) = if bytes_eq name column then field else field_under name columns fields

abbrev pub field_of : FieldList → FieldList → Column → List ℕ
field_of columns fields column = field_under (column_name column) columns fields
