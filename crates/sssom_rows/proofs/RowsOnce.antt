-- Each record is a row or has one fault, and so have all records together.
use Rattle.std.proofs.Common.{◌≡◌, ◌≢◌, ◌≤◌, ℕ, suc, ◌+◌, false, List, [], ◌∷◌, ◌++◌, length, Option, Some, None, refl, sym, ap, ap₂, subst, ◌∙◌, inl, inr, arith, append_assoc, length-append, cond}
use Rattle.std.specs.Prelude.{◌==◌, nat_lt, not, is_some, unwrap_or, Result, Ok, Err}
use Rattle.std.proofs.lemmas.Bool.{cases_Bool, cases_lt, eqb-true, eqb-false, eq-eqb, lt-ltb, le-ltb}
use Rattle.std.proofs.lemmas.List.{append-nil}
use Rattle.text_names.specs.Prefixes.{Prefixes}
use Rattle.sssom_head.specs.Contents.{is_empty_list}
use Rattle.sssom_rows.specs.declared.column.Column.{Column}
use Rattle.sssom_rows.specs.declared.column.Column.TheVariants.{Subject, Predicate, Object, Confidence, Modifier}
use Rattle.sssom_rows.specs.declared.fault.TableFault.{TableFault}
use Rattle.sssom_rows.specs.declared.fault.TableFault.TheVariants as fault
use Rattle.sssom_rows.specs.declared.table.Row.{Row}
use Rattle.sssom_rows.specs.Records.{FieldList, are_texts}
use Rattle.sssom_rows.specs.Columns.{field_of}
use Rattle.sssom_rows.specs.Ids.{id_in}
use Rattle.sssom_rows.specs.Tables.{IsEven, IsRow, AreRows}
use Rattle.sssom_rows.specs.Faults.{first_unread, HasNoUnits, IsRowFault, IsFirstRowFault}
use Rattle.sssom_rows.proofs.UnitLaws.{DecimalsAreKnown, UnitsKnown, units_are_known, units_once}
use Rattle.sssom_rows.proofs.TableLaws.{rows_and_one}

-- a row or its fault
abbrev pub IsRowAnswer : ℕ → Prefixes → FieldList → ℕ → FieldList → Result Row TableFault → Type 0
IsRowAnswer most prefixes columns number fields (Ok row) = (number ≤ most) × IsRow prefixes columns fields row
IsRowAnswer most prefixes columns number fields (Err found) = IsRowFault most prefixes columns number fields found

abbrev id_at : Prefixes → FieldList → FieldList → Column → Option (List ℕ)
id_at prefixes columns fields column = unwrap_or (id_in prefixes (field_of columns fields column)) None

abbrev row_with : Prefixes → FieldList → FieldList → ℕ → Row
row_with prefixes columns fields units = record {
  fields = fields;
  subject = id_at prefixes columns fields Subject;
  predicate = id_at prefixes columns fields Predicate;
  object = id_at prefixes columns fields Object;
  confidence = units;
  modified = not (is_empty_list (field_of columns fields Modifier));
}

-- the row or its first fault, where it is known which units the confidence has
abbrev by_units : Prefixes → FieldList → ℕ → (fields : FieldList) → (text : List ℕ) → UnitsKnown text → Result Row TableFault
by_units prefixes columns number fields text (inl units) = Ok (row_with prefixes columns fields units.0)
by_units prefixes columns number fields text (inr none) = Err (fault.Confidence number)

abbrev by_unread : Option Column → ℕ → Result Row TableFault → Result Row TableFault
by_unread (Some column) number other = Err (fault.Curie number column)
by_unread None number other = other

abbrev row_by : (most : ℕ) (prefixes : Prefixes) (columns : FieldList) (number : ℕ) (fields : FieldList) → UnitsKnown (field_of columns fields Confidence) → Result Row TableFault
row_by most prefixes columns number fields known =
    cond (nat_lt most number) (Err fault.TooManyRows) (
    cond (length fields == length columns) (
    cond (are_texts fields) (by_unread (first_unread prefixes columns fields) number (by_units prefixes columns number fields (field_of columns fields Confidence) known))
    (Err (fault.NotUtf8 number)))
    (Err (fault.Ragged number)))

-- the ids of a row are read
all_read : (a b c : Option (Option (List ℕ))) (x y z : Option (List ℕ)) → a ≡ Some x → b ≡ Some y → c ≡ Some z
    → cond (is_some a) (cond (is_some b) (cond (is_some c) None (Some Object)) (Some Predicate)) (Some Subject) ≡ None
all_read a b c x y z p q r = rw (p, q, r) refl

pub record AreRead (a b c : Option (Option (List ℕ))) : Type 0 where
  pub first : a ≡ Some (unwrap_or a None)
  pub second : b ≡ Some (unwrap_or b None)
  pub third : c ≡ Some (unwrap_or c None)

read_all : (a b c : Option (Option (List ℕ))) → cond (is_some a) (cond (is_some b) (cond (is_some c) None (Some Object)) (Some Predicate)) (Some Subject) ≡ None → AreRead a b c
read_all None b c e = absurd (cc e)
read_all (Some x) None c e = absurd (cc e)
read_all (Some x) (Some y) None e = absurd (cc e)
read_all (Some x) (Some y) (Some z) e = record { first = refl; second = refl; third = refl }

row_is : (prefixes : Prefixes) (columns fields : FieldList) (row : Row) (units : ℕ) → IsRow prefixes columns fields row → row.confidence ≡ units → row ≡ row_with prefixes columns fields units
row_is prefixes columns fields row units is same =
    let s = ap (λ (o : Option (Option (List ℕ))). unwrap_or o None) (sym is.subject) in
    let p = ap (λ (o : Option (Option (List ℕ))). unwrap_or o None) (sym is.predicate) in
    let o = ap (λ (o : Option (Option (List ℕ))). unwrap_or o None) (sym is.object) in
    λ i. record { fields = is.fields_are i; subject = s i; predicate = p i; object = o i; confidence = same i; modified = is.modified i }

-- where there are units they are these
by_known : DecimalsAreKnown → (prefixes : Prefixes) (columns fields : FieldList) (number : ℕ) (row : Row) (known : UnitsKnown (field_of columns fields Confidence)) → IsRow prefixes columns fields row
    → Ok row ≡ by_units prefixes columns number fields (field_of columns fields Confidence) known
by_known decimals prefixes columns fields number row (inl units) is =
    ap Ok (row_is prefixes columns fields row units.0 is (units_once decimals (field_of columns fields Confidence) row.confidence units.0 is.confidence units.1))
by_known decimals prefixes columns fields number row (inr none) is = absurd (none row.confidence is.confidence)

by_unknown : (prefixes : Prefixes) (columns fields : FieldList) (number : ℕ) (text : List ℕ) (known : UnitsKnown text) → HasNoUnits text
    → Err (fault.Confidence number) ≡ by_units prefixes columns number fields text known
by_unknown prefixes columns fields number text (inl units) none = absurd (none units.0 units.1)
by_unknown prefixes columns fields number text (inr known) none = refl

not_equal : (a b : ℕ) → a ≢ b → (a == b) ≡ false
not_equal a b other = elim (cases_Bool (a == b)) [ inl same ↦ absurd (other (eqb-true a b same)) | inr differs ↦ differs ]

-- an answer of a row is that one
row_answer_is : DecimalsAreKnown → (most : ℕ) (prefixes : Prefixes) (columns : FieldList) (number : ℕ) (fields : FieldList) (known : UnitsKnown (field_of columns fields Confidence))
    (answer : Result Row TableFault) → IsRowAnswer most prefixes columns number fields answer → answer ≡ row_by most prefixes columns number fields known
row_answer_is decimals most prefixes columns number fields known (Ok row) is =
    let few = le-ltb most number is.0 in
    let count = eq-eqb (length fields) (length columns) is.1.even.count in
    let read : first_unread prefixes columns fields ≡ None = all_read _ _ _ _ _ _ is.1.subject is.1.predicate is.1.object in
    rw (few, count, is.1.even.texts, read) (by_known decimals prefixes columns fields number row known is.1)
row_answer_is decimals most prefixes columns number fields known (Err fault.TooManyRows) is = rw (lt-ltb most number is) refl
row_answer_is decimals most prefixes columns number fields known (Err (fault.Ragged row)) is =
    let few = le-ltb most number is.1 in
    let count = not_equal (length fields) (length columns) is.2 in
    rw (few, count, is.0) refl
row_answer_is decimals most prefixes columns number fields known (Err (fault.NotUtf8 row)) is =
    let few = le-ltb most number is.1 in
    let count = eq-eqb (length fields) (length columns) is.2 in
    rw (few, count, is.3, is.0) refl
row_answer_is decimals most prefixes columns number fields known (Err (fault.Curie row column)) is =
    let few = le-ltb most number is.1 in
    let count = eq-eqb (length fields) (length columns) is.2.count in
    rw (few, count, is.2.texts, is.3, is.0) refl
row_answer_is decimals most prefixes columns number fields known (Err (fault.Confidence row)) is =
    let few = le-ltb most number is.1 in
    let count = eq-eqb (length fields) (length columns) is.2.count in
    rw (few, count, is.2.texts, is.3, is.0) (by_unknown prefixes columns fields number (field_of columns fields Confidence) known is.4)
row_answer_is decimals most prefixes columns number fields known (Err (fault.MapForm line)) is = absurd is
row_answer_is decimals most prefixes columns number fields known (Err (fault.Again line)) is = absurd is
row_answer_is decimals most prefixes columns number fields known (Err fault.NoColumns) is = absurd is
row_answer_is decimals most prefixes columns number fields known (Err (fault.ColumnMissing column)) is = absurd is
row_answer_is decimals most prefixes columns number fields known (Err (fault.ColumnTwice column)) is = absurd is
row_answer_is decimals most prefixes columns number fields known (Err fault.OutOfMemory) is = absurd is

pub row_once : DecimalsAreKnown → (most : ℕ) (prefixes : Prefixes) (columns : FieldList) (number : ℕ) (fields : FieldList) (one other : Result Row TableFault)
    → IsRowAnswer most prefixes columns number fields one → IsRowAnswer most prefixes columns number fields other → one ≡ other
row_once decimals most prefixes columns number fields one other a b =
    let known = units_are_known decimals (field_of columns fields Confidence) in
    row_answer_is decimals most prefixes columns number fields known one a ∙ sym (row_answer_is decimals most prefixes columns number fields known other b)

-- and that one is an answer
abbrev HasRowAnswer : ℕ → Prefixes → FieldList → ℕ → FieldList → Type 0
HasRowAnswer most prefixes columns number fields = (answer : Result Row TableFault) × IsRowAnswer most prefixes columns number fields answer

units_answer : (most : ℕ) (prefixes : Prefixes) (columns : FieldList) (number : ℕ) (fields : FieldList) (known : UnitsKnown (field_of columns fields Confidence))
    → number ≤ most → IsEven columns fields → first_unread prefixes columns fields ≡ None → HasRowAnswer most prefixes columns number fields
units_answer most prefixes columns number fields (inr none) few even read = (Err (fault.Confidence number), (refl, few, even, read, none))
units_answer most prefixes columns number fields (inl units) few even read =
    let ids = read_all (id_in prefixes (field_of columns fields Subject)) (id_in prefixes (field_of columns fields Predicate)) (id_in prefixes (field_of columns fields Object)) read in (
      Ok (row_with prefixes columns fields units.0),
      (
        few,
        record {
          fields_are = refl;
          even = even;
          subject = ids.first;
          predicate = ids.second;
          object = ids.third;
          confidence = units.1;
          modified = refl;
        },
      ),
    )

unread_answer : DecimalsAreKnown → (most : ℕ) (prefixes : Prefixes) (columns : FieldList) (number : ℕ) (fields : FieldList) (unread : Option Column)
    → first_unread prefixes columns fields ≡ unread → number ≤ most → IsEven columns fields → HasRowAnswer most prefixes columns number fields
unread_answer decimals most prefixes columns number fields (Some column) is few even = (Err (fault.Curie number column), (refl, few, even, is))
unread_answer decimals most prefixes columns number fields None is few even =
    units_answer most prefixes columns number fields (units_are_known decimals (field_of columns fields Confidence)) few even is

pub row_exists : DecimalsAreKnown → (most : ℕ) (prefixes : Prefixes) (columns : FieldList) (number : ℕ) (fields : FieldList) → HasRowAnswer most prefixes columns number fields
row_exists decimals most prefixes columns number fields = elim (cases_lt most number) [
  | inl many ↦ (Err fault.TooManyRows, many)
  | inr few ↦ elim (cases_Bool (length fields == length columns)) [
    | inr other ↦ (Err (fault.Ragged number), (refl, few, eqb-false _ _ other))
    | inl same ↦
        let count = eqb-true (length fields) (length columns) same in
        elim (cases_Bool (are_texts fields)) [
          | inr bad ↦ (Err (fault.NotUtf8 number), (refl, few, count, bad))
          | inl good ↦ unread_answer decimals most prefixes columns number fields (first_unread prefixes columns fields) refl few (record { count = count; texts = good })
        ]
  ]
]

-- rows or the first fault of records of which so many are rows
abbrev pub AreRowsAnswer : ℕ → Prefixes → FieldList → List FieldList → Result (List Row) TableFault → Type 0
AreRowsAnswer most prefixes columns records (Ok rows) = (length records ≤ most) × AreRows prefixes columns records rows
AreRowsAnswer most prefixes columns records (Err found) = IsFirstRowFault most prefixes columns records found

abbrev HaveRowsAnswer : ℕ → Prefixes → FieldList → List FieldList → Type 0
HaveRowsAnswer most prefixes columns records = (answer : Result (List Row) TableFault) × AreRowsAnswer most prefixes columns records answer

abbrev AnswersAfter : ℕ → Prefixes → FieldList → List FieldList → Type 0
AnswersAfter most prefixes columns after = (before : List FieldList) (rows : List Row) → AreRows prefixes columns before rows → length before ≤ most
    → HaveRowsAnswer most prefixes columns (before ++ after)

next_answer : (most : ℕ) (prefixes : Prefixes) (columns fields : FieldList) (after : List FieldList) → AnswersAfter most prefixes columns after
    → (before : List FieldList) (rows : List Row) → AreRows prefixes columns before rows → length before ≤ most
    → (answer : Result Row TableFault) → IsRowAnswer most prefixes columns (1 + length before) fields answer → HaveRowsAnswer most prefixes columns (before ++ fields ∷ after)
next_answer most prefixes columns fields after later before rows are few (Err found) is =
    (Err found, record { before = before; fields = fields; after = after; whole = refl; few = few; rows = rows; sound = are; at_fault = is })
next_answer most prefixes columns fields after later before rows are few (Ok row) is =
    let more = later (before ++ fields ∷ []) (rows ++ row ∷ []) (rows_and_one prefixes columns before rows fields row are is.1)
    (omega (arith, is.0, length-append before (fields ∷ []))) in
    subst (λ (rs : List FieldList). HaveRowsAnswer most prefixes columns rs) (append_assoc before (fields ∷ []) after) more

rows_after : DecimalsAreKnown → (most : ℕ) (prefixes : Prefixes) (columns : FieldList) (after : List FieldList) → AnswersAfter most prefixes columns after
rows_after decimals most prefixes columns [] before rows are few =
    subst (λ (rs : List FieldList). HaveRowsAnswer most prefixes columns rs) (sym (append-nil before)) (Ok rows, (few, are))
rows_after decimals most prefixes columns (fields ∷ after) before rows are few =
    let one = row_exists decimals most prefixes columns (1 + length before) fields in
    next_answer most prefixes columns fields after (rows_after decimals most prefixes columns after) before rows are few one.0 one.1

pub rows_exist : DecimalsAreKnown → (most : ℕ) (prefixes : Prefixes) (columns : FieldList) (records : List FieldList) → HaveRowsAnswer most prefixes columns records
rows_exist decimals most prefixes columns records = rows_after decimals most prefixes columns records [] [] tt (omega arith)

-- rows or a fault, record by record from this number on
abbrev then_rows : Result Row TableFault → Result (List Row) TableFault → Result (List Row) TableFault
then_rows (Err found) rest = Err found
then_rows (Ok row) (Err found) = Err found
then_rows (Ok row) (Ok rows) = Ok (row ∷ rows)

abbrev row_at : DecimalsAreKnown → ℕ → Prefixes → FieldList → ℕ → FieldList → Result Row TableFault
row_at decimals most prefixes columns number fields = row_by most prefixes columns number fields (units_are_known decimals (field_of columns fields Confidence))

abbrev pub rows_by : DecimalsAreKnown → ℕ → Prefixes → FieldList → ℕ → List FieldList → Result (List Row) TableFault
rows_by decimals most prefixes columns number [] = Ok []
rows_by decimals most prefixes columns number (fields ∷ records) =
    then_rows (row_at decimals most prefixes columns number fields) (rows_by decimals most prefixes columns (suc number) records)

row_here : (decimals : DecimalsAreKnown) (most : ℕ) (prefixes : Prefixes) (columns : FieldList) (number : ℕ) (fields : FieldList) (answer : Result Row TableFault)
    → IsRowAnswer most prefixes columns number fields answer → answer ≡ row_at decimals most prefixes columns number fields
row_here decimals most prefixes columns number fields answer is =
    row_answer_is decimals most prefixes columns number fields (units_are_known decimals (field_of columns fields Confidence)) answer is

rows_ok : (decimals : DecimalsAreKnown) (most : ℕ) (prefixes : Prefixes) (columns : FieldList) (number : ℕ) (records : List FieldList) (rows : List Row)
    → AreRows prefixes columns records rows → number + length records ≤ suc most → Ok rows ≡ rows_by decimals most prefixes columns number records
rows_ok decimals most prefixes columns number [] [] are few = refl
rows_ok decimals most prefixes columns number [] (row ∷ rows) are few = absurd are
rows_ok decimals most prefixes columns number (fields ∷ records) [] are few = absurd are
rows_ok decimals most prefixes columns number (fields ∷ records) (row ∷ rows) are few =
    ap₂ (λ (a : Result Row TableFault) (b : Result (List Row) TableFault). then_rows a b)
    (row_here decimals most prefixes columns number fields (Ok row) (omega arith, are.0))
    (rows_ok decimals most prefixes columns (suc number) records rows are.1 (omega arith))

rows_err : (decimals : DecimalsAreKnown) (most : ℕ) (prefixes : Prefixes) (columns : FieldList) (number : ℕ) (before : List FieldList) (rows : List Row) (fields : FieldList)
    (after : List FieldList) (found : TableFault) → AreRows prefixes columns before rows → number + length before ≤ suc most
    → IsRowFault most prefixes columns (number + length before) fields found → Err found ≡ rows_by decimals most prefixes columns number (before ++ fields ∷ after)
rows_err decimals most prefixes columns number [] [] fields after found are few is =
    let here : number + 0 ≡ number = omega arith in
    ap (λ (a : Result Row TableFault). then_rows a (rows_by decimals most prefixes columns (suc number) after))
    (row_here decimals most prefixes columns number fields (Err found) (subst (λ (n : ℕ). IsRowFault most prefixes columns n fields found) here is))
rows_err decimals most prefixes columns number [] (row ∷ rows) fields after found are few is = absurd are
rows_err decimals most prefixes columns number (one ∷ before) [] fields after found are few is = absurd are
rows_err decimals most prefixes columns number (one ∷ before) (row ∷ rows) fields after found are few is =
    let here : number + suc (length before) ≡ suc number + length before = omega arith in
    ap₂ (λ (a : Result Row TableFault) (b : Result (List Row) TableFault). then_rows a b)
    (row_here decimals most prefixes columns number one (Ok row) (omega arith, are.0))
    (rows_err decimals most prefixes columns (suc number) before rows fields after found are.1 (omega arith)
    (subst (λ (n : ℕ). IsRowFault most prefixes columns n fields found) here is))

pub rows_answer_is : (decimals : DecimalsAreKnown) (most : ℕ) (prefixes : Prefixes) (columns : FieldList) (records : List FieldList) (answer : Result (List Row) TableFault)
    → AreRowsAnswer most prefixes columns records answer → answer ≡ rows_by decimals most prefixes columns 1 records
rows_answer_is decimals most prefixes columns records (Ok rows) is = rows_ok decimals most prefixes columns 1 records rows is.1 (omega (arith, is.0))
rows_answer_is decimals most prefixes columns records (Err found) is =
    rows_err decimals most prefixes columns 1 is.before is.rows is.fields is.after found is.sound (omega (arith, is.few)) is.at_fault
    ∙ ap (λ (rs : List FieldList). rows_by decimals most prefixes columns 1 rs) (sym is.whole)
