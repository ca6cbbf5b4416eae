-- The answers of the steps in which a table is read.
use Rattle.std.specs.Prelude.{◌≡◌, ◌≤◌, ◌⊎◌, ℕ, true, false, List, [], ◌∷◌, length, Option, Some, None, Result, Ok, Err}
use Rattle.byte_words.specs.Faults.{OrOutOfMemory}
use Rattle.text_names.specs.Prefixes.{Prefixes}
use Rattle.sssom_rows.specs.declared.column.Column.{Column}
use Rattle.sssom_rows.specs.declared.column.Column.TheVariants.{Subject, Predicate, Object}
use Rattle.sssom_rows.specs.declared.fault.TableFault.{TableFault}
use Rattle.sssom_rows.specs.declared.fault.TableFault.TheVariants as fault
use Rattle.sssom_rows.specs.declared.rows.Ids.{Ids}
use Rattle.sssom_rows.specs.declared.table.Row.{Row}
use Rattle.sssom_rows.specs.declared.table.Table.{Table}
use Rattle.sssom_rows.specs.Records.{FieldList, are_texts}
use Rattle.sssom_rows.specs.Columns.{first_missing, first_twice, field_of}
use Rattle.sssom_rows.specs.Ids.{id_in}
use Rattle.sssom_rows.specs.Tables.{AreColumns, IsRow, AreRows}
use Rattle.sssom_rows.specs.Faults.{first_unread, IsRowFault, IsFirstRowFault, table_ran_out}

-- what is wrong with the columns
abbrev pub IsColumnFault : FieldList → TableFault → Type 0
IsColumnFault columns (fault.NotUtf8 row) = (row ≡ 0) × (are_texts columns ≡ false)
IsColumnFault columns (fault.ColumnMissing column) = (are_texts columns ≡ true) × (first_missing columns ≡ Some column)
IsColumnFault columns (fault.ColumnTwice column) =
    (are_texts columns ≡ true) × (first_missing columns ≡ None) × (first_twice columns ≡ Some column)
IsColumnFault columns (fault.MapForm line) = ⊥
IsColumnFault columns (fault.Again line) = ⊥
IsColumnFault columns fault.NoColumns = ⊥
IsColumnFault columns fault.TooManyRows = ⊥
IsColumnFault columns (fault.Ragged row) = ⊥
IsColumnFault columns (fault.Curie row column) = ⊥
IsColumnFault columns (fault.Confidence row) = ⊥
IsColumnFault columns fault.OutOfMemory = ⊥

abbrev pub AreColumnsRead : FieldList → Option TableFault → Type 0
AreColumnsRead columns None = AreColumns columns
AreColumnsRead columns (Some fault) = IsColumnFault columns fault

-- the ids of a row
pub record AreIds (prefixes : Prefixes) (columns fields : FieldList) (ids : Ids) : Type 0 where
  pub subject : id_in prefixes (field_of columns fields Subject) ≡ Some ids.subject
  pub predicate : id_in prefixes (field_of columns fields Predicate) ≡ Some ids.predicate
  pub object : id_in prefixes (field_of columns fields Object) ≡ Some ids.object

-- the fault is that this column is not read
pub record IsUnread (prefixes : Prefixes) (columns fields : FieldList) (number : ℕ) (found : TableFault) : Type 0 where
  pub column : Column
  pub found_is : found ≡ fault.Curie number column
  pub first : first_unread prefixes columns fields ≡ Some column

abbrev pub AreIdsRead : Prefixes → FieldList → FieldList → ℕ → Result Ids TableFault → Type 0
AreIdsRead prefixes columns fields number (Ok ids) = AreIds prefixes columns fields ids
AreIdsRead prefixes columns fields number (Err fault) = OrOutOfMemory table_ran_out (IsUnread prefixes columns fields number) fault

abbrev pub IsRowRead : ℕ → Prefixes → FieldList → ℕ → FieldList → Result Row TableFault → Type 0
IsRowRead most prefixes columns number fields (Ok row) = (number ≤ most) × IsRow prefixes columns fields row
IsRowRead most prefixes columns number fields (Err fault) =
    OrOutOfMemory table_ran_out (IsRowFault most prefixes columns number fields) fault

abbrev pub AreRowsRead : ℕ → Prefixes → FieldList → List FieldList → Result (List Row) TableFault → Type 0
AreRowsRead most prefixes columns records (Ok rows) = (length records ≤ most) × AreRows prefixes columns records rows
AreRowsRead most prefixes columns records (Err fault) =
    OrOutOfMemory table_ran_out (IsFirstRowFault most prefixes columns records) fault

-- what is wrong with the records
abbrev pub AreRecordsFault : ℕ → Prefixes → List FieldList → TableFault → Type 0
AreRecordsFault most prefixes [] found = found ≡ fault.NoColumns
AreRecordsFault most prefixes (columns ∷ records) found =
    IsColumnFault columns found ⊎ (AreColumns columns × IsFirstRowFault most prefixes columns records found)

-- the records are those of this table
abbrev pub AreRecordsOf : ℕ → Prefixes → List FieldList → Table → Type 0
AreRecordsOf most prefixes [] table = ⊥
AreRecordsOf most prefixes (columns ∷ records) table = (table.columns ≡ columns) × AreColumns columns × AreRowsRead most prefixes columns records (Ok table.rows)

abbrev pub IsTableReadOf : ℕ → List ℕ → Prefixes → List FieldList → Result Table TableFault → Type 0
IsTableReadOf most head prefixes records (Ok table) = (table.head ≡ head) × AreRecordsOf most prefixes records table
IsTableReadOf most head prefixes records (Err fault) =
    OrOutOfMemory table_ran_out (AreRecordsFault most prefixes records) fault
