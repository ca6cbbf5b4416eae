-- What is read of a table, stage by stage, and what it says of the whole.
use Rattle.std.proofs.Common.{◌≡◌, ◌<◌, ◌≤◌, ℕ, suc, Bool, true, false, List, [], ◌∷◌, length, take, drop, refl, sym, ap, subst, ◌∙◌, inl, inr, arith, length-append, length-drop}
use Rattle.std.specs.Prelude.{⊤, Result, Ok, Err, IfOk, MatchBool, bytes_eq}
use Rattle.std.proofs.lemmas.Bool.{cases_Bool}
use Rattle.std.proofs.lemmas.List.{take-append-drop, length-take-le}
use Rattle.byte_words.specs.Fronts.{byte_order_mark, without_mark}
use Rattle.text_names.specs.Prefixes.{Prefixes}
use Rattle.sssom_head.specs.Heads.{IsHeadOf, IsHeader}
use Rattle.sssom_head.specs.declared.head.Head.{Head}
use Rattle.sssom_head.specs.declared.head.HeadFault.{HeadFault}
use Rattle.sssom_head.specs.declared.head.HeadFault.TheVariants as of_head
use Rattle.sssom_rows.specs.declared.fault.TableFault.{TableFault}
use Rattle.sssom_rows.specs.declared.fault.TableFault.TheVariants as fault
use Rattle.sssom_rows.specs.declared.table.Row.{Row}
use Rattle.sssom_rows.specs.declared.table.Table.{Table}
use Rattle.sssom_rows.specs.Records.{FieldList, AreTabbed}
use Rattle.sssom_rows.specs.Tables.{AreParts, AreColumns, AreRows, IsTableText}
use Rattle.sssom_rows.specs.Faults.{HasRowFault, IsFirstTableFault, IsTableRead, of_header, table_ran_out}
use Rattle.sssom_rows.specs.Inside.Steps.{IsColumnFault, AreRecordsFault, IsTableReadOf}
use Rattle.sssom_rows.proofs.RecordLaws.{tabbed_are_few}

-- what follows from a fault follows from it where memory may run out
or_map : (b : Bool) {P Q : Type 0} → (P → Q) → MatchBool b ⊤ P → MatchBool b ⊤ Q
or_map true f h = h
or_map false f h = f h

-- a text that is within a bound is so without a byte order mark
pub unmarked_within : (text : List ℕ) (most : ℕ) → length text ≤ most → length (without_mark text) ≤ most
unmarked_within text most within = elim (cases_Bool (bytes_eq (take 3 text) byte_order_mark)) [
  | inl mark ↦ rw mark (omega (arith, length-drop 3 text, within))
  | inr other ↦ rw other within
]

-- the parts of a table whose header is read
pub parts_are : (bytes front : List ℕ) (head : Head) (records : List FieldList) → IsHeadOf (without_mark bytes) head → head.length ≤ length (without_mark bytes)
    → front ≡ take head.length (without_mark bytes) → AreTabbed (drop head.length (without_mark bytes)) records → AreParts bytes front head.prefixes records
parts_are bytes front head records header within front_is are =
    let text = without_mark bytes in
    record {
      rest = drop head.length text;
      whole = rw front_is (sym (take-append-drop head.length text));
      header = record {
        place = header.place;
        entries = header.entries;
        sound = header.sound;
        counted = ap length front_is ∙ length-take-le head.length text within ∙ header.counted;
        prefixes = header.prefixes;
      };
      records_are = are;
    }

-- a fault of the header is the first of the table
pub header_fault : (most : ℕ) (bytes : List ℕ) (found : HeadFault) → IsHeader (without_mark bytes) (Err found) → IsTableRead most bytes (Err (of_header found))
header_fault most bytes (of_head.MapForm line) h = h
header_fault most bytes (of_head.Again line) h = h
header_fault most bytes of_head.OutOfMemory h = tt

-- a fault of the columns is the first where the header is sound
column_fault : (most : ℕ) (bytes head : List ℕ) (prefixes : Prefixes) (columns : FieldList) (records : List FieldList) (found : TableFault)
    → AreParts bytes head prefixes (columns ∷ records) → IsColumnFault columns found → IsFirstTableFault most bytes found
column_fault most bytes head prefixes columns records (fault.NotUtf8 row) parts h = inl (h.0, record { columns = columns; records = records; parted = record { head = head; prefixes = prefixes; parts = parts }; holds = h.1 })
column_fault most bytes head prefixes columns records (fault.ColumnMissing column) parts h = record { columns = columns; records = records; parted = record { head = head; prefixes = prefixes; parts = parts }; holds = h }
column_fault most bytes head prefixes columns records (fault.ColumnTwice column) parts h = record { columns = columns; records = records; parted = record { head = head; prefixes = prefixes; parts = parts }; holds = h }
column_fault most bytes head prefixes columns records (fault.MapForm line) parts h = absurd h
column_fault most bytes head prefixes columns records (fault.Again line) parts h = absurd h
column_fault most bytes head prefixes columns records fault.NoColumns parts h = absurd h
column_fault most bytes head prefixes columns records fault.TooManyRows parts h = absurd h
column_fault most bytes head prefixes columns records (fault.Ragged row) parts h = absurd h
column_fault most bytes head prefixes columns records (fault.Curie row column) parts h = absurd h
column_fault most bytes head prefixes columns records (fault.Confidence row) parts h = absurd h
column_fault most bytes head prefixes columns records fault.OutOfMemory parts h = absurd h

-- the first fault of the rows is the first where the columns are sound too
row_fault : (most : ℕ) (bytes : List ℕ) (found : TableFault) → HasRowFault most bytes found → IsFirstTableFault most bytes found
row_fault most bytes (fault.NotUtf8 row) h = inr h
row_fault most bytes (fault.ColumnMissing column) h = absurd h.at_fault.at_fault
row_fault most bytes (fault.ColumnTwice column) h = absurd h.at_fault.at_fault
row_fault most bytes (fault.MapForm line) h = absurd h.at_fault.at_fault
row_fault most bytes (fault.Again line) h = absurd h.at_fault.at_fault
row_fault most bytes fault.NoColumns h = absurd h.at_fault.at_fault
row_fault most bytes fault.TooManyRows h = h
row_fault most bytes (fault.Ragged row) h = h
row_fault most bytes (fault.Curie row column) h = h
row_fault most bytes (fault.Confidence row) h = h
row_fault most bytes fault.OutOfMemory h = absurd h.at_fault.at_fault

-- the fault of the records is that of the table
pub first_is : (most : ℕ) (bytes head : List ℕ) (prefixes : Prefixes) (records : List FieldList) (found : TableFault)
    → AreParts bytes head prefixes records → AreRecordsFault most prefixes records found → IsFirstTableFault most bytes found
first_is most bytes head prefixes [] found parts h =
    subst (λ (f : TableFault). IsFirstTableFault most bytes f) (sym h) (record { head = head; prefixes = prefixes; parts = parts })
first_is most bytes head prefixes (columns ∷ records) found parts (inl h) = column_fault most bytes head prefixes columns records found parts h
first_is most bytes head prefixes (columns ∷ records) found parts (inr h) =
    row_fault most bytes found (record { head = head; prefixes = prefixes; columns = columns; records = records; parts = parts; sound = h.0; at_fault = h.1 })

-- what the records are is what the table is
pub table_is_read : (most : ℕ) (bytes head : List ℕ) (prefixes : Prefixes) (records : List FieldList) (answer : Result Table TableFault)
    → AreParts bytes head prefixes records → IsTableReadOf most head prefixes records answer → IsTableRead most bytes answer
table_is_read most bytes head prefixes [] (Ok table) parts read = absurd read.1
table_is_read most bytes head prefixes (columns ∷ records) (Ok table) parts read = record {
  prefixes = prefixes;
  records = records;
  parts = subst (λ (h : List ℕ). AreParts bytes h prefixes (table.columns ∷ records)) (sym read.0)
      (subst (λ (cs : FieldList). AreParts bytes head prefixes (cs ∷ records)) (sym read.1.0) parts);
  columns = subst (λ (cs : FieldList). AreColumns cs) (sym read.1.0) read.1.1;
  few = read.1.2.0;
  rows = subst (λ (cs : FieldList). AreRows prefixes cs records table.rows) (sym read.1.0) read.1.2.1;
}
table_is_read most bytes head prefixes records (Err found) parts read =
    or_map (table_ran_out found) (first_is most bytes head prefixes records found parts) read

-- as many rows as records
rows_match : (prefixes : Prefixes) (columns : FieldList) (records : List FieldList) (rows : List Row) → AreRows prefixes columns records rows → length rows ≡ length records
rows_match prefixes columns [] [] are = refl
rows_match prefixes columns [] (row ∷ rows) are = absurd are
rows_match prefixes columns (fields ∷ records) [] are = absurd are
rows_match prefixes columns (fields ∷ records) (row ∷ rows) are = ap suc (rows_match prefixes columns records rows are.1)

-- a table has fewer rows than its text has bytes
rows_are_few : (most : ℕ) (bytes : List ℕ) (table : Table) → IsTableText most bytes table → length table.rows < length bytes
rows_are_few most bytes table is =
    let same = rows_match is.prefixes table.columns is.records table.rows is.rows in
    let few = tabbed_are_few is.parts.rest (table.columns ∷ is.records) is.parts.records_are in
    let whole = ap length is.parts.whole ∙ length-append table.head is.parts.rest in
    omega (arith, same, few, whole, unmarked_within bytes (length bytes) (omega arith))

pub few_are_read : (most : ℕ) (bytes : List ℕ) (answer : Result Table TableFault) → IsTableRead most bytes answer
    → IfOk answer (λ table. length table.rows < length bytes)
few_are_read most bytes (Ok table) read = rows_are_few most bytes table read
few_are_read most bytes (Err found) read = tt
