-- The first fault of bytes that are the text of no table.
use Rattle.std.specs.Prelude.{◌≡◌, ◌≢◌, ◌≤◌, ◌<◌, ◌⊎◌, ℕ, ◌+◌, Bool, true, false, if◌then◌else◌, List, [], ◌∷◌, ◌++◌, length, Option, Some, None, is_some, Result, Ok, Err}
use Rattle.byte_words.specs.Faults.{OrOutOfMemory}
use Rattle.byte_words.specs.Fronts.{without_mark}
use Rattle.text_names.specs.Prefixes.{Prefixes}
use Rattle.sssom_head.specs.Headers.{IsFirstFault}
use Rattle.sssom_head.specs.Lines.{contents_of}
use Rattle.sssom_head.specs.declared.head.HeadFault.{HeadFault}
use Rattle.sssom_head.specs.declared.head.HeadFault.TheVariants as of_head
use Rattle.sssom_rows.specs.declared.column.Column.{Column}
use Rattle.sssom_rows.specs.declared.column.Column.TheVariants.{Subject, Predicate, Object, Confidence}
use Rattle.sssom_rows.specs.declared.fault.TableFault.{TableFault}
use Rattle.sssom_rows.specs.declared.fault.TableFault.TheVariants as fault
use Rattle.sssom_rows.specs.declared.table.Row.{Row}
use Rattle.sssom_rows.specs.declared.table.Table.{Table}
use Rattle.sssom_rows.specs.Records.{FieldList, are_texts}
use Rattle.sssom_rows.specs.Columns.{first_missing, first_twice, field_of}
use Rattle.sssom_rows.specs.Ids.{id_in}
use Rattle.sssom_rows.specs.Tables.{AreParts, AreColumns, HasUnits, IsEven, AreRows, IsTableText}

-- the first of subject, predicate and object that is not read
abbrev pub first_unread : Prefixes → FieldList → FieldList → Option Column
first_unread prefixes columns fields =
    if is_some (id_in prefixes (field_of columns fields Subject)) then
    if is_some (id_in prefixes (field_of columns fields Predicate)) then
    if is_some (id_in prefixes (field_of columns fields Object)) then None else Some Object
    else Some Predicate
    else Some Subject

abbrev pub HasNoUnits : List ℕ → Type 0
HasNoUnits text = (units : ℕ) → HasUnits text units → ⊥

-- what is wrong with the row of this number, the first of these that is so
abbrev pub IsRowFault : ℕ → Prefixes → FieldList → ℕ → FieldList → TableFault → Type 0
IsRowFault most prefixes columns number fields fault.TooManyRows = most < number
IsRowFault most prefixes columns number fields (fault.Ragged row) =
    (row ≡ number) × (number ≤ most) × (length fields ≢ length columns)
IsRowFault most prefixes columns number fields (fault.NotUtf8 row) =
    (row ≡ number) × (number ≤ most) × (length fields ≡ length columns) × (are_texts fields ≡ false)
IsRowFault most prefixes columns number fields (fault.Curie row column) =
    (row ≡ number) × (number ≤ most) × IsEven columns fields × (first_unread prefixes columns fields ≡ Some column)
IsRowFault most prefixes columns number fields (fault.Confidence row) =
    (row ≡ number) × (number ≤ most) × IsEven columns fields × (first_unread prefixes columns fields ≡ None)
    × HasNoUnits (field_of columns fields Confidence)
IsRowFault most prefixes columns number fields (fault.MapForm line) = ⊥
IsRowFault most prefixes columns number fields (fault.Again line) = ⊥
IsRowFault most prefixes columns number fields fault.NoColumns = ⊥
IsRowFault most prefixes columns number fields (fault.ColumnMissing column) = ⊥
IsRowFault most prefixes columns number fields (fault.ColumnTwice column) = ⊥
IsRowFault most prefixes columns number fields fault.OutOfMemory = ⊥

-- the records before this one are rows, as many as there may be at most, and this one is wrong. Rows are counted from 1
pub record IsFirstRowFault (most : ℕ) (prefixes : Prefixes) (columns : FieldList) (records : List FieldList) (fault : TableFault) : Type 0 where
  pub before : List FieldList
  pub fields : FieldList
  pub after : List FieldList
  pub whole : records ≡ before ++ fields ∷ after
  pub few : length before ≤ most
  pub rows : List Row
  pub sound : AreRows prefixes columns before rows
  pub at_fault : IsRowFault most prefixes columns (1 + length before) fields fault

-- a row is wrong, and all before it is sound
pub record HasRowFault (most : ℕ) (bytes : List ℕ) (fault : TableFault) : Type 0 where
  pub head : List ℕ
  pub prefixes : Prefixes
  pub columns : FieldList
  pub records : List FieldList
  pub parts : AreParts bytes head prefixes (columns ∷ records)
  pub sound : AreColumns columns
  pub at_fault : IsFirstRowFault most prefixes columns records fault

-- the header is sound, and these are the records
pub record HaveRecords (bytes : List ℕ) (records : List FieldList) : Type 0 where
  pub head : List ℕ
  pub prefixes : Prefixes
  pub parts : AreParts bytes head prefixes records

-- of the column record this holds
pub record HaveColumns (bytes : List ℕ) (Holds : FieldList → Type 0) : Type 0 where
  pub columns : FieldList
  pub records : List FieldList
  pub parted : HaveRecords bytes (columns ∷ records)
  pub holds : Holds columns

-- the first fault of the bytes, in this order: the header, the column record, the rows
abbrev pub IsFirstTableFault : ℕ → List ℕ → TableFault → Type 0
IsFirstTableFault most bytes (fault.MapForm line) = IsFirstFault (contents_of (without_mark bytes)) (of_head.MapForm line)
IsFirstTableFault most bytes (fault.Again line) = IsFirstFault (contents_of (without_mark bytes)) (of_head.Again line)
IsFirstTableFault most bytes fault.NoColumns = HaveRecords bytes []
IsFirstTableFault most bytes (fault.NotUtf8 row) =
    ((row ≡ 0) × HaveColumns bytes (λ columns. are_texts columns ≡ false)) ⊎ HasRowFault most bytes (fault.NotUtf8 row)
IsFirstTableFault most bytes (fault.ColumnMissing column) =
    HaveColumns bytes (λ columns. (are_texts columns ≡ true) × (first_missing columns ≡ Some column))
IsFirstTableFault most bytes (fault.ColumnTwice column) =
    HaveColumns bytes (λ columns. (are_texts columns ≡ true) × (first_missing columns ≡ None) × (first_twice columns ≡ Some column))
IsFirstTableFault most bytes fault.TooManyRows = HasRowFault most bytes fault.TooManyRows
IsFirstTableFault most bytes (fault.Ragged row) = HasRowFault most bytes (fault.Ragged row)
IsFirstTableFault most bytes (fault.Curie row column) = HasRowFault most bytes (fault.Curie row column)
IsFirstTableFault most bytes (fault.Confidence row) = HasRowFault most bytes (fault.Confidence row)
IsFirstTableFault most bytes fault.OutOfMemory = ⊥

-- memory ran out
abbrev pub table_ran_out : TableFault → Bool
table_ran_out fault.OutOfMemory = true
table_ran_out _ = false

-- the table whose text the bytes are, or their first fault
abbrev pub IsTableAnswer : ℕ → List ℕ → Result Table TableFault → Type 0
IsTableAnswer most bytes (Ok table) = IsTableText most bytes table
IsTableAnswer most bytes (Err fault) = IsFirstTableFault most bytes fault

-- the same, unless memory ran out
abbrev pub IsTableRead : ℕ → List ℕ → Result Table TableFault → Type 0
IsTableRead most bytes (Ok table) = IsTableText most bytes table
IsTableRead most bytes (Err fault) = OrOutOfMemory table_ran_out (IsFirstTableFault most bytes) fault

-- the fault of a table whose header has this fault
abbrev pub of_header : HeadFault → TableFault
of_header (of_head.MapForm line) = fault.MapForm line
of_header (of_head.Again line) = fault.Again line
of_header of_head.OutOfMemory = fault.OutOfMemory
