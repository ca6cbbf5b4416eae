-- Any bytes are the text of one table or have one first fault.
use Rattle.std.proofs.Common.{◌≡◌, ◌⊎◌, ℕ, ◌+◌, true, false, List, [], ◌∷◌, ◌++◌, length, take, drop, Option, Some, None, refl, sym, ap, ap₂, subst, ◌∙◌, inl, inr, length-append, cond}
use Rattle.std.specs.Prelude.{Result, Ok, Err}
use Rattle.std.specs.List.{concat}
use Rattle.std.proofs.lemmas.Bool.{cases_Bool}
use Rattle.std.proofs.lemmas.List.Folds.{concat-append}
use Rattle.std.proofs.Math.Seq.{take-append_seam, drop-append_seam}
use Rattle.byte_words.specs.Fronts.{without_mark}
use Rattle.text_names.specs.Prefixes.{Prefixes}
use Rattle.sssom_head.specs.declared.head.HeadFault.{HeadFault}
use Rattle.sssom_head.specs.declared.head.HeadFault.TheVariants as of_head
use Rattle.sssom_head.specs.BuiltIn.{with_built_in}
use Rattle.sssom_head.specs.Headers.{IsFirstFault, IsSound, IsReading}
use Rattle.sssom_head.specs.HeaderSteps.{State, Answer, run, start}
use Rattle.sssom_head.specs.Lines.{lines_of, header_lines, bytes_in, contents_of}
use Rattle.sssom_rows.specs.declared.column.Column.{Column}
use Rattle.sssom_rows.specs.declared.fault.TableFault.{TableFault}
use Rattle.sssom_rows.specs.declared.fault.TableFault.TheVariants as fault
use Rattle.sssom_rows.specs.declared.table.Row.{Row}
use Rattle.sssom_rows.specs.declared.table.Table.{Table}
use Rattle.sssom_rows.specs.Records.{FieldList, AreTabbed, are_texts}
use Rattle.sssom_rows.specs.Columns.{first_missing, first_twice}
use Rattle.sssom_rows.specs.Tables.{AreParts, AreColumns}
use Rattle.sssom_rows.specs.Faults.{HaveColumns, HasRowFault, IsTableAnswer, of_header}
use Rattle.sssom_rows.specs.Inside.Steps.{IsColumnFault, AreColumnsRead, AreRecordsFault, AreRecordsOf}
use Rattle.sssom_rows.proofs.UnitLaws.{DecimalsAreKnown}
use Rattle.sssom_rows.proofs.RecordsOnce.{tabbed_once, tabbed_exist}
use Rattle.sssom_rows.proofs.RowsOnce.{AreRowsAnswer, rows_by, rows_answer_is, rows_exist}
use Rattle.sssom_rows.proofs.ReadLaws.{first_is, table_is_read}

-- what is known of headers and their lines
pub record HeadersAreKnown : Type 0 where
  pub found : (lines : List (List ℕ)) → IsReading lines (run 1 start lines)
  pub alone : (lines : List (List ℕ)) (answer : Answer) → IsReading lines answer → run 1 start lines ≡ answer
  pub joined : (text : List ℕ) → concat (lines_of text) ≡ text
  pub lines : (text : List ℕ) → lines_of text ≡ header_lines text ++ lines_of (drop (bytes_in (header_lines text)) text)

-- the columns are sound or have one fault
abbrev twice_by : Option Column → Option TableFault
twice_by None = None
twice_by (Some column) = Some (fault.ColumnTwice column)

abbrev missing_by : Option Column → Option TableFault → Option TableFault
missing_by None other = other
missing_by (Some column) other = Some (fault.ColumnMissing column)

abbrev columns_by : FieldList → Option TableFault
columns_by columns = cond (are_texts columns) (missing_by (first_missing columns) (twice_by (first_twice columns))) (Some (fault.NotUtf8 0))

columns_are : (columns : FieldList) (found : Option TableFault) → AreColumnsRead columns found → found ≡ columns_by columns
columns_are columns None is = rw (is.texts, is.complete, is.once) refl
columns_are columns (Some (fault.NotUtf8 row)) is = rw (is.1, is.0) refl
columns_are columns (Some (fault.ColumnMissing column)) is = rw (is.0, is.1) refl
columns_are columns (Some (fault.ColumnTwice column)) is = rw (is.0, is.1, is.2) refl
columns_are columns (Some (fault.MapForm line)) is = absurd is
columns_are columns (Some (fault.Again line)) is = absurd is
columns_are columns (Some fault.NoColumns) is = absurd is
columns_are columns (Some fault.TooManyRows) is = absurd is
columns_are columns (Some (fault.Ragged row)) is = absurd is
columns_are columns (Some (fault.Curie row column)) is = absurd is
columns_are columns (Some (fault.Confidence row)) is = absurd is
columns_are columns (Some fault.OutOfMemory) is = absurd is

abbrev HaveColumnsRead : FieldList → Type 0
HaveColumnsRead columns = (found : Option TableFault) × AreColumnsRead columns found

twice_exist : (columns : FieldList) → are_texts columns ≡ true → first_missing columns ≡ None → (twice : Option Column) → first_twice columns ≡ twice → HaveColumnsRead columns
twice_exist columns texts complete None is = (None, record { texts = texts; complete = complete; once = is })
twice_exist columns texts complete (Some column) is = (Some (fault.ColumnTwice column), (texts, complete, is))

missing_exist : (columns : FieldList) → are_texts columns ≡ true → (missing : Option Column) → first_missing columns ≡ missing → HaveColumnsRead columns
missing_exist columns texts None is = twice_exist columns texts is (first_twice columns) refl
missing_exist columns texts (Some column) is = (Some (fault.ColumnMissing column), (texts, is))

columns_exist : (columns : FieldList) → HaveColumnsRead columns
columns_exist columns = elim (cases_Bool (are_texts columns)) [
  | inl good ↦ missing_exist columns good (first_missing columns) refl
  | inr bad ↦ (Some (fault.NotUtf8 0), (refl, bad))
]

-- a table or a fault of these records
abbrev AreRecordsAnswer : ℕ → List ℕ → Prefixes → List FieldList → Result Table TableFault → Type 0
AreRecordsAnswer most head prefixes records (Ok table) = (table.head ≡ head) × AreRecordsOf most prefixes records table
AreRecordsAnswer most head prefixes records (Err found) = AreRecordsFault most prefixes records found

abbrev after_columns : List ℕ → FieldList → Option TableFault → Result (List Row) TableFault → Result Table TableFault
after_columns head columns (Some found) rows = Err found
after_columns head columns None (Err found) = Err found
after_columns head columns None (Ok rows) = Ok (record { head = head; columns = columns; rows = rows })

abbrev records_by : DecimalsAreKnown → ℕ → List ℕ → Prefixes → List FieldList → Result Table TableFault
records_by decimals most head prefixes [] = Err fault.NoColumns
records_by decimals most head prefixes (columns ∷ records) = after_columns head columns (columns_by columns) (rows_by decimals most prefixes columns 1 records)

records_are : (decimals : DecimalsAreKnown) (most : ℕ) (head : List ℕ) (prefixes : Prefixes) (records : List FieldList) (answer : Result Table TableFault)
    → AreRecordsAnswer most head prefixes records answer → answer ≡ records_by decimals most head prefixes records
records_are decimals most head prefixes [] (Ok table) is = absurd is.1
records_are decimals most head prefixes [] (Err found) is = ap Err is
records_are decimals most head prefixes (columns ∷ records) (Ok table) is =
    let same : table ≡ record { head = head; columns = columns; rows = table.rows } = λ i. record { head = is.0 i; columns = is.1.0 i; rows = table.rows } in
    ap Ok same ∙ ap₂ (λ (c : Option TableFault) (r : Result (List Row) TableFault). after_columns head columns c r)
    (columns_are columns None is.1.1) (rows_answer_is decimals most prefixes columns records (Ok table.rows) is.1.2)
records_are decimals most head prefixes (columns ∷ records) (Err found) (inl is) =
    ap (λ (c : Option TableFault). after_columns head columns c (rows_by decimals most prefixes columns 1 records)) (columns_are columns (Some found) is)
records_are decimals most head prefixes (columns ∷ records) (Err found) (inr is) =
    ap₂ (λ (c : Option TableFault) (r : Result (List Row) TableFault). after_columns head columns c r)
    (columns_are columns None is.0) (rows_answer_is decimals most prefixes columns records (Err found) is.1)

abbrev HaveRecordsAnswer : ℕ → List ℕ → Prefixes → List FieldList → Type 0
HaveRecordsAnswer most head prefixes records = (answer : Result Table TableFault) × AreRecordsAnswer most head prefixes records answer

rows_answer : (most : ℕ) (head : List ℕ) (prefixes : Prefixes) (columns : FieldList) (records : List FieldList) → AreColumns columns
    → (answer : Result (List Row) TableFault) → AreRowsAnswer most prefixes columns records answer → HaveRecordsAnswer most head prefixes (columns ∷ records)
rows_answer most head prefixes columns records sound (Ok rows) is = (Ok (record { head = head; columns = columns; rows = rows }), (refl, (refl, sound, is)))
rows_answer most head prefixes columns records sound (Err found) is = (Err found, inr (sound, is))

columns_answer : DecimalsAreKnown → (most : ℕ) (head : List ℕ) (prefixes : Prefixes) (columns : FieldList) (records : List FieldList) (found : Option TableFault)
    → AreColumnsRead columns found → HaveRecordsAnswer most head prefixes (columns ∷ records)
columns_answer decimals most head prefixes columns records (Some found) is = (Err found, inl is)
columns_answer decimals most head prefixes columns records None is =
    let rows = rows_exist decimals most prefixes columns records in
    rows_answer most head prefixes columns records is rows.0 rows.1

records_exist : DecimalsAreKnown → (most : ℕ) (head : List ℕ) (prefixes : Prefixes) (records : List FieldList) → HaveRecordsAnswer most head prefixes records
records_exist decimals most head prefixes [] = (Err fault.NoColumns, refl)
records_exist decimals most head prefixes (columns ∷ records) =
    let found = columns_exist columns in
    columns_answer decimals most head prefixes columns records found.0 found.1

-- the parts of a text are the only ones
pub record AreSame (head other : List ℕ) (prefixes others : Prefixes) (records more : List FieldList) : Type 0 where
  pub heads : head ≡ other
  pub prefixes_are : prefixes ≡ others
  pub records_are_same : records ≡ more

prefixes_in : Answer → Prefixes
prefixes_in (Ok state) = state.prefixes
prefixes_in (Err found) = []

entries_of : HeadersAreKnown → (bytes head : List ℕ) (prefixes : Prefixes) (records : List FieldList) → AreParts bytes head prefixes records
    → (state : State) × (run 1 start (contents_of (without_mark bytes)) ≡ Ok state) × (prefixes ≡ with_built_in state.prefixes)
entries_of known bytes head prefixes records parts =
    let state : State = record { place = parts.header.place; prefixes = parts.header.entries } in
    (state, known.alone (contents_of (without_mark bytes)) (Ok state) parts.header.sound, parts.header.prefixes)

states : (a b : State) → ◌≡◌ {A = Answer} (Ok a) (Ok b) → a ≡ b
states a b e = cc e

front_of : (bytes head : List ℕ) (prefixes : Prefixes) (records : List FieldList) (parts : AreParts bytes head prefixes records)
    → head ≡ take (bytes_in (header_lines (without_mark bytes))) (without_mark bytes)
front_of bytes head prefixes records parts =
    sym (take-append_seam head parts.rest) ∙ ap (λ (t : List ℕ). take (length head) t) (sym parts.whole) ∙ ap (λ (n : ℕ). take n (without_mark bytes)) parts.header.counted

rest_of : (bytes head : List ℕ) (prefixes : Prefixes) (records : List FieldList) (parts : AreParts bytes head prefixes records)
    → parts.rest ≡ drop (bytes_in (header_lines (without_mark bytes))) (without_mark bytes)
rest_of bytes head prefixes records parts =
    sym (drop-append_seam head parts.rest) ∙ ap (λ (t : List ℕ). drop (length head) t) (sym parts.whole) ∙ ap (λ (n : ℕ). drop n (without_mark bytes)) parts.header.counted

parts_once : HeadersAreKnown → (bytes head other : List ℕ) (prefixes others : Prefixes) (records more : List FieldList) → AreParts bytes head prefixes records
    → AreParts bytes other others more → AreSame head other prefixes others records more
parts_once known bytes head other prefixes others records more a b =
    let one = entries_of known bytes head prefixes records a in
    let two = entries_of known bytes other others more b in
    let same = states one.0 two.0 (sym one.1 ∙ two.1) in
    let rests : a.rest ≡ b.rest = rest_of bytes head prefixes records a ∙ sym (rest_of bytes other others more b) in
    record {
      heads = front_of bytes head prefixes records a ∙ sym (front_of bytes other others more b);
      prefixes_are = one.2 ∙ ap (λ (s : State). with_built_in s.prefixes) same ∙ sym two.2;
      records_are_same = tabbed_once b.rest records more (subst (λ (t : List ℕ). AreTabbed t records) rests a.records_are) b.records_are;
    }

-- an answer is a fault of the header, or one of the records behind it
pub record IsHeaderFault (bytes : List ℕ) (answer : Result Table TableFault) : Type 0 where
  pub found : HeadFault
  pub first : IsFirstFault (contents_of (without_mark bytes)) found
  pub answer_is : answer ≡ Err (of_header found)

pub record IsOfParts (most : ℕ) (bytes : List ℕ) (answer : Result Table TableFault) : Type 0 where
  pub head : List ℕ
  pub prefixes : Prefixes
  pub records : List FieldList
  pub parts : AreParts bytes head prefixes records
  pub answer_is : AreRecordsAnswer most head prefixes records answer

of_columns : (most : ℕ) (bytes : List ℕ) (Holds : FieldList → Type 0) (found : TableFault) (is : HaveColumns bytes Holds)
    → ((columns : FieldList) → Holds columns → IsColumnFault columns found) → IsOfParts most bytes (Err found)
of_columns most bytes Holds found is holds = record {
  head = is.parted.head;
  prefixes = is.parted.prefixes;
  records = is.columns ∷ is.records;
  parts = is.parted.parts;
  answer_is = inl (holds is.columns is.holds);
}

of_rows : (most : ℕ) (bytes : List ℕ) (found : TableFault) → HasRowFault most bytes found → IsOfParts most bytes (Err found)
of_rows most bytes found is = record {
  head = is.head;
  prefixes = is.prefixes;
  records = is.columns ∷ is.records;
  parts = is.parts;
  answer_is = inr (is.sound, is.at_fault);
}

staged : (most : ℕ) (bytes : List ℕ) (answer : Result Table TableFault) → IsTableAnswer most bytes answer → IsHeaderFault bytes answer ⊎ IsOfParts most bytes answer
staged most bytes (Ok table) is = inr (record {
  head = table.head;
  prefixes = is.prefixes;
  records = table.columns ∷ is.records;
  parts = is.parts;
  answer_is = (refl, (refl, is.columns, (is.few, is.rows)));
})
staged most bytes (Err (fault.MapForm line)) is = inl (record { found = of_head.MapForm line; first = is; answer_is = refl })
staged most bytes (Err (fault.Again line)) is = inl (record { found = of_head.Again line; first = is; answer_is = refl })
staged most bytes (Err fault.NoColumns) is = inr (record { head = is.head; prefixes = is.prefixes; records = []; parts = is.parts; answer_is = refl })
staged most bytes (Err (fault.NotUtf8 row)) (inl is) = inr (of_columns most bytes (λ columns. are_texts columns ≡ false) (fault.NotUtf8 row) is.1 (λ columns bad. (is.0, bad)))
staged most bytes (Err (fault.NotUtf8 row)) (inr is) = inr (of_rows most bytes (fault.NotUtf8 row) is)
staged most bytes (Err (fault.ColumnMissing column)) is =
    inr (of_columns most bytes (λ columns. (are_texts columns ≡ true) × (first_missing columns ≡ Some column)) (fault.ColumnMissing column) is (λ columns holds. holds))
staged most bytes (Err (fault.ColumnTwice column)) is =
    inr (of_columns most bytes (λ columns. (are_texts columns ≡ true) × (first_missing columns ≡ None) × (first_twice columns ≡ Some column)) (fault.ColumnTwice column) is (λ columns holds. holds))
staged most bytes (Err fault.TooManyRows) is = inr (of_rows most bytes fault.TooManyRows is)
staged most bytes (Err (fault.Ragged row)) is = inr (of_rows most bytes (fault.Ragged row) is)
staged most bytes (Err (fault.Curie row column)) is = inr (of_rows most bytes (fault.Curie row column) is)
staged most bytes (Err (fault.Confidence row)) is = inr (of_rows most bytes (fault.Confidence row) is)
staged most bytes (Err fault.OutOfMemory) is = absurd is

fault_not_sound : (run_is : Answer) (found : HeadFault) (state : State) → run_is ≡ Err found → run_is ≡ Ok state → ⊥
fault_not_sound run_is found state is also = cc (sym is ∙ also)

faults : (a b : HeadFault) → ◌≡◌ {A = Answer} (Err a) (Err b) → a ≡ b
faults a b e = cc e

same_answer : DecimalsAreKnown → HeadersAreKnown → (most : ℕ) (bytes : List ℕ) (one other : Result Table TableFault)
    → IsHeaderFault bytes one ⊎ IsOfParts most bytes one → IsHeaderFault bytes other ⊎ IsOfParts most bytes other → one ≡ other
same_answer decimals known most bytes one other (inl a) (inl b) =
    let lines = contents_of (without_mark bytes) in
    let same = faults a.found b.found (sym (known.alone lines (Err a.found) a.first) ∙ known.alone lines (Err b.found) b.first) in
    a.answer_is ∙ ap (λ (f : HeadFault). Err (of_header f)) same ∙ sym b.answer_is
same_answer decimals known most bytes one other (inl a) (inr b) =
    let entries = entries_of known bytes b.head b.prefixes b.records b.parts in
    absurd (fault_not_sound _ a.found entries.0 (known.alone (contents_of (without_mark bytes)) (Err a.found) a.first) entries.1)
same_answer decimals known most bytes one other (inr a) (inl b) =
    let entries = entries_of known bytes a.head a.prefixes a.records a.parts in
    absurd (fault_not_sound _ b.found entries.0 (known.alone (contents_of (without_mark bytes)) (Err b.found) b.first) entries.1)
same_answer decimals known most bytes one other (inr a) (inr b) =
    let same = parts_once known bytes a.head b.head a.prefixes b.prefixes a.records b.records a.parts b.parts in
    records_are decimals most a.head a.prefixes a.records one a.answer_is
    ∙ ap (λ (h : List ℕ). records_by decimals most h a.prefixes a.records) same.heads
    ∙ ap₂ (λ (p : Prefixes) (r : List FieldList). records_by decimals most b.head p r) same.prefixes_are same.records_are_same
    ∙ sym (records_are decimals most b.head b.prefixes b.records other b.answer_is)

pub answer_once : DecimalsAreKnown → HeadersAreKnown → (most : ℕ) (bytes : List ℕ) (one other : Result Table TableFault)
    → IsTableAnswer most bytes one → IsTableAnswer most bytes other → one ≡ other
answer_once decimals known most bytes one other a b = same_answer decimals known most bytes one other (staged most bytes one a) (staged most bytes other b)

-- and there is one
abbrev HasAnswer : ℕ → List ℕ → Type 0
HasAnswer most bytes = (answer : Result Table TableFault) × IsTableAnswer most bytes answer

parts_answer : (most : ℕ) (bytes head : List ℕ) (prefixes : Prefixes) (records : List FieldList) → AreParts bytes head prefixes records
    → (answer : Result Table TableFault) → AreRecordsAnswer most head prefixes records answer → HasAnswer most bytes
parts_answer most bytes head prefixes records parts (Ok table) is = (Ok table, table_is_read most bytes head prefixes records (Ok table) parts is)
parts_answer most bytes head prefixes records parts (Err found) is = (Err found, first_is most bytes head prefixes records found parts is)

bytes_are : (lines : List (List ℕ)) → length (concat lines) ≡ bytes_in lines
bytes_are [] = refl
bytes_are (line ∷ lines) = length-append line (concat lines) ∙ ap (λ (n : ℕ). length line + n) (bytes_are lines)

sound_answer : DecimalsAreKnown → HeadersAreKnown → (most : ℕ) (bytes : List ℕ) (state : State) → IsSound (contents_of (without_mark bytes)) state.place state.prefixes → HasAnswer most bytes
sound_answer decimals known most bytes state sound =
    let text = without_mark bytes in
    let head = concat (header_lines text) in
    let rest = concat (lines_of (drop (bytes_in (header_lines text)) text)) in
    let prefixes = with_built_in state.prefixes in
    let records = tabbed_exist rest in
    let parts : AreParts bytes head prefixes records.0 = record {
      rest = rest;
      whole = sym (known.joined text) ∙ ap concat (known.lines text) ∙ concat-append (header_lines text) (lines_of (drop (bytes_in (header_lines text)) text));
      header = record { place = state.place; entries = state.prefixes; sound = sound; counted = bytes_are (header_lines text); prefixes = refl };
      records_are = records.1;
    } in
    let answer = records_exist decimals most head prefixes records.0 in
    parts_answer most bytes head prefixes records.0 parts answer.0 answer.1

header_answer : DecimalsAreKnown → HeadersAreKnown → (most : ℕ) (bytes : List ℕ) (answer : Answer) → IsReading (contents_of (without_mark bytes)) answer → HasAnswer most bytes
header_answer decimals known most bytes (Ok state) is = sound_answer decimals known most bytes state is
header_answer decimals known most bytes (Err (of_head.MapForm line)) is = (Err (fault.MapForm line), is)
header_answer decimals known most bytes (Err (of_head.Again line)) is = (Err (fault.Again line), is)
header_answer decimals known most bytes (Err of_head.OutOfMemory) is = absurd is.at_fault

pub answer_exists : DecimalsAreKnown → HeadersAreKnown → (most : ℕ) (bytes : List ℕ) → HasAnswer most bytes
answer_exists decimals known most bytes =
    let lines = contents_of (without_mark bytes) in
    header_answer decimals known most bytes (run 1 start lines) (known.found lines)
