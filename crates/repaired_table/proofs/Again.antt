-- The repaired text is the text of a table with the same columns and just the kept rows.
use Rattle.std.proofs.Common.{◌≡◌, ◌≢◌, ◌≤◌, ℕ, Bool, true, false, List, [], ◌∷◌, ◌++◌, length, Some, None, refl, sym, ap, ap₂, subst, ◌∙◌, inl, inr, arith, append_assoc, cond}
use Rattle.std.specs.Prelude.{◌==◌, ◌&&◌, bytes_eq, codes}
use Rattle.std.specs.List.{AllByRecursion, concat, list_any}
use Rattle.std.proofs.lemmas.Bool.{cases_Bool, eqb-true, and_parts}
use Rattle.std.proofs.lemmas.Slice.Eq.{bytes_eq-Decides}
use Rattle.byte_words.specs.Fronts.{byte_order_mark, without_mark}
use Rattle.csv.specs.Machine.{next_record}
use Rattle.csv.specs.Reading.{Reached, strip_bom}
use Rattle.csv.specs.Writing.{needs_byte, escaped, field_text, fields_text, is_blank}
use Rattle.csv.specs.declared.parser.State.TheVariants as st
use Rattle.text_names.specs.Prefixes.{Prefixes}
use Rattle.sssom_head.specs.Lines.{begins_with_hash, header_lines}
use Rattle.sssom_head.specs.Heads.{IsHeadOf}
use Rattle.sssom_rows.specs.declared.table.Row.{Row}
use Rattle.sssom_rows.specs.declared.table.Table.{Table}
use Rattle.sssom_rows.specs.Records.{FieldList, tabbed, AreTabbed}
use Rattle.sssom_rows.specs.Columns.{first_missing}
use Rattle.sssom_rows.specs.Tables.{AreParts, AreRows, IsTableText}
use Rattle.repaired_table.specs.Repaired.{tab_writer, record_text, kept, rows_text, repaired_text, kept_table, BeginsPlainly}
use Rattle.repaired_table.proofs.SwapLaws.{record_again}
use Rattle.repaired_table.proofs.HeadAgain.{LinesAreKnown, head_again, header_is}

-- the text begins neither with # nor with a byte order mark
abbrev NotMarked : List ℕ → Type 0
NotMarked text = (rest : List ℕ) → text ≢ byte_order_mark ++ rest

pub record IsPlain (text : List ℕ) : Type 0 where
  pub no_hash : begins_with_hash text ≡ false
  pub no_mark : (rest : List ℕ) → text ≢ byte_order_mark ++ rest

-- lists that are the same begin with the same
heads : (a b : ℕ) (xs ys : List ℕ) → a ∷ xs ≡ b ∷ ys → a ≡ b
heads a b xs ys e = cc e

-- and go on the same
tails : (a b : ℕ) (xs ys : List ℕ) → a ∷ xs ≡ b ∷ ys → xs ≡ ys
tails a b xs ys e = cc e

-- a name that begins plainly, and a tab
plain_name : (name more : List ℕ) → begins_with_hash name ≡ false → NotMarked name → IsPlain (name ++ 9 ∷ more)
plain_name [] more no_hash no_mark = record { no_hash = refl; no_mark = λ rest e. absurd (omega (arith, heads _ _ _ _ e)) }
plain_name (a ∷ []) more no_hash no_mark = record { no_hash = no_hash; no_mark = λ rest e. absurd (omega (arith, heads _ _ _ _ (tails _ _ _ _ e))) }
plain_name (a ∷ b ∷ []) more no_hash no_mark = record { no_hash = no_hash; no_mark = λ rest e. absurd (omega (arith, heads _ _ _ _ (tails _ _ _ _ (tails _ _ _ _ e)))) }
plain_name (a ∷ b ∷ c ∷ name) more no_hash no_mark = record {
  no_hash = no_hash;
  no_mark = λ rest e.
      let first = heads _ _ _ _ e in
      let second = heads _ _ _ _ (tails _ _ _ _ e) in
      let third = heads _ _ _ _ (tails _ _ _ _ (tails _ _ _ _ e)) in
      no_mark name (rw (first, second, third) refl);
}

-- a quote begins plainly
plain_quote : (more : List ℕ) → IsPlain (34 ∷ more)
plain_quote more = record { no_hash = refl; no_mark = λ rest e. absurd (omega (arith, heads _ _ _ _ e)) }

-- and so does a field whose name does
plain_field : (needs : Bool) (name quoted more : List ℕ) → begins_with_hash name ≡ false → NotMarked name → IsPlain (cond needs (34 ∷ quoted) name ++ 9 ∷ more)
plain_field true name quoted more no_hash no_mark = plain_quote (quoted ++ 9 ∷ more)
plain_field false name quoted more no_hash no_mark = plain_name name more no_hash no_mark

-- the text of columns that begin plainly does so
plain_columns : (x y : List ℕ) (ys : FieldList) (tail : List ℕ) → BeginsPlainly (x ∷ y ∷ ys) → IsPlain (record_text (x ∷ y ∷ ys) ++ tail)
unfolding fields_text is_blank
plain_columns x y ys tail plain =
    let more : List ℕ = field_text tab_writer y ++ fields_text tab_writer ys in
    let text : record_text (x ∷ y ∷ ys) ++ tail ≡ field_text tab_writer x ++ 9 ∷ (more ++ 10 ∷ tail) =
    append_assoc (field_text tab_writer x ++ 9 ∷ more) (10 ∷ []) tail ∙ append_assoc (field_text tab_writer x) (9 ∷ more) (10 ∷ tail) in
    subst (λ (t : List ℕ). IsPlain t) (sym text)
    (plain_field (list_any (needs_byte tab_writer) x) x (escaped tab_writer x ++ 34 ∷ []) (more ++ 10 ∷ tail) plain.0 plain.1)

-- csv finds no byte order mark either
plain_stays : (text : List ℕ) → NotMarked text → strip_bom text ≡ text
unfolding strip_bom
plain_stays [] no_mark = refl
plain_stays (a ∷ []) no_mark = refl
plain_stays (a ∷ b ∷ []) no_mark = refl
plain_stays (a ∷ b ∷ c ∷ rest) no_mark = elim (cases_Bool ((a == 239) && (b == 187) && (c == 191))) [
  | inl mark ↦ absurd (no_mark rest (marked a b c rest mark))
  | inr other ↦ rw other refl
]
  where
    marked : (a b c : ℕ) (rest : List ℕ) → ((a == 239) && (b == 187) && (c == 191)) ≡ true → a ∷ b ∷ c ∷ rest ≡ byte_order_mark ++ rest
    marked a b c rest mark =
        let both = and_parts _ _ mark in
        let first = and_parts _ _ both.0 in
        rw (eqb-true a 239 first.0, eqb-true b 187 first.1, eqb-true c 191 both.1) refl

-- a table's columns are two or more
two_columns : (columns : FieldList) → first_missing columns ≡ None → 2 ≤ length columns
two_columns [] complete = absurd (cc complete)
two_columns (x ∷ []) complete = elim (cases_Bool (bytes_eq (codes "subject_id") x)) [
  | inl subject ↦ elim (cases_Bool (bytes_eq (codes "predicate_id") x)) [
    | inl predicate ↦ absurd (omega (arith, ap length ((bytes_eq-Decides (codes "subject_id") x).0 subject ∙ sym ((bytes_eq-Decides (codes "predicate_id") x).0 predicate))))
    | inr other ↦ absurd (cc (rw (subject, other) at complete))
  ]
  | inr other ↦ absurd (cc (rw other at complete))
]
two_columns (x ∷ y ∷ columns) complete = omega arith

-- the texts of records, one after another
abbrev records_text : List FieldList → List ℕ
records_text [] = []
records_text (fields ∷ records) = record_text fields ++ records_text records

-- each record has two fields or more
abbrev AreWide : List FieldList → Type 0
AreWide records = AllByRecursion (λ fields. 2 ≤ length fields) records

-- a record of two fields or more is read as it was written
one_again : (fields : FieldList) (tail : List ℕ) → 2 ≤ length fields → next_record tabbed st.StartRecord [] [] (record_text fields ++ tail) ≡ Some (fields, st.StartRecord, tail)
one_again [] tail wide = absurd (omega arith)
one_again (x ∷ []) tail wide = absurd (omega arith)
one_again (x ∷ y ∷ ys) tail wide = record_again x y ys tail

-- and so are several
all_again : (records : List FieldList) → AreWide records → Reached tabbed st.StartRecord (records_text records) records st.StartRecord []
unfolding Reached
all_again [] wide = (refl, refl)
all_again (fields ∷ records) wide = ((fields, st.StartRecord, records_text records), one_again fields (records_text records) wide.0, refl, all_again records wide.1)

-- after the last there is no record
at_end : next_record tabbed st.StartRecord [] [] [] ≡ None
unfolding next_record
at_end = refl

-- kept rows are those of kept records
kept_rows : (prefixes : Prefixes) (columns : FieldList) (keep : List Bool) (records : List FieldList) (rows : List Row) → AreRows prefixes columns records rows
    → AreRows prefixes columns (kept keep records) (kept keep rows)
kept_rows prefixes columns keep [] [] are = tt
kept_rows prefixes columns keep [] (row ∷ rows) are = absurd are
kept_rows prefixes columns keep (fields ∷ records) [] are = absurd are
kept_rows prefixes columns [] (fields ∷ records) (row ∷ rows) are = tt
kept_rows prefixes columns (true ∷ keep) (fields ∷ records) (row ∷ rows) are = (are.0, kept_rows prefixes columns keep records rows are.1)
kept_rows prefixes columns (false ∷ keep) (fields ∷ records) (row ∷ rows) are = kept_rows prefixes columns keep records rows are.1

-- no more records are kept than there are
kept_few : (keep : List Bool) (records : List FieldList) → length (kept keep records) ≤ length records
kept_few keep [] = omega arith
kept_few [] (fields ∷ records) = omega arith
kept_few (true ∷ keep) (fields ∷ records) = let few = kept_few keep records in omega arith
kept_few (false ∷ keep) (fields ∷ records) = let few = kept_few keep records in omega arith

-- the texts of rows are those of their records
texts_match : (prefixes : Prefixes) (columns : FieldList) (records : List FieldList) (rows : List Row) → AreRows prefixes columns records rows → records_text records ≡ rows_text rows
texts_match prefixes columns [] [] are = refl
texts_match prefixes columns [] (row ∷ rows) are = absurd are
texts_match prefixes columns (fields ∷ records) [] are = absurd are
texts_match prefixes columns (fields ∷ records) (row ∷ rows) are =
    ap₂ (λ (f : FieldList) (t : List ℕ). record_text f ++ t) (sym are.0.fields_are) (texts_match prefixes columns records rows are.1)

-- each row has two fields or more
rows_wide : (prefixes : Prefixes) (columns : FieldList) (records : List FieldList) (rows : List Row) → 2 ≤ length columns → AreRows prefixes columns records rows → AreWide records
rows_wide prefixes columns [] [] wide are = tt
rows_wide prefixes columns [] (row ∷ rows) wide are = absurd are
rows_wide prefixes columns (fields ∷ records) [] wide are = absurd are
rows_wide prefixes columns (fields ∷ records) (row ∷ rows) wide are = (omega (arith, are.0.even.count), rows_wide prefixes columns records rows wide are.1)

-- a text with a record is not empty
some_rest : (rest : List ℕ) (records : List FieldList) → AreTabbed rest records → 1 ≤ length records → 1 ≤ length rest
unfolding Reached strip_bom next_record
some_rest [] [] are some = absurd (omega arith)
some_rest [] (fields ∷ records) (to, left, (p, next, is, more), last) some = absurd (cc next)
some_rest (b ∷ rest) records are some = omega arith

-- the text of the kept rows is not marked either, whatever the header
head_unmarked : (lines : List (List ℕ)) (head rest : List ℕ) → concat lines ≡ head → AllByRecursion (λ line. begins_with_hash line ≡ true) lines → IsPlain rest → NotMarked (head ++ rest)
head_unmarked [] head rest joined all plain = λ more e. plain.no_mark more (ap (λ (h : List ℕ). h ++ rest) joined ∙ e)
head_unmarked ([] ∷ lines) head rest joined all plain = absurd (cc all.0)
head_unmarked ((b ∷ bytes) ∷ lines) head rest joined all plain = λ more e.
    let hash : b ≡ 35 = eqb-true b 35 all.0 in
    let first = heads _ _ _ _ (ap (λ (h : List ℕ). h ++ rest) joined ∙ e) in
    absurd (omega (arith, hash, first))

-- the columns and the kept records of a table
again_parts : LinesAreKnown → ((text : List ℕ) → NotMarked text → without_mark text ≡ text)
    → (bytes head : List ℕ) (prefixes : Prefixes) (columns : FieldList) (records kept_records : List FieldList) → AreParts bytes head prefixes (columns ∷ records)
    → 2 ≤ length columns → BeginsPlainly columns → AreWide kept_records
    → AreParts (head ++ (record_text columns ++ records_text kept_records)) head prefixes (columns ∷ kept_records)
again_parts known unmarked bytes head prefixes [] records kept_records parts two plain wide = absurd (omega arith)
again_parts known unmarked bytes head prefixes (x ∷ []) records kept_records parts two plain wide = absurd (omega arith)
again_parts known unmarked bytes head prefixes (x ∷ y ∷ ys) records kept_records parts two plain wide =
    let columns = x ∷ y ∷ ys in
    let rest : List ℕ = record_text columns ++ records_text kept_records in
    let is = plain_columns x y ys (records_text kept_records) plain in
    let header = subst (λ (t : List ℕ). IsHeadOf t (record { length = length head; prefixes = prefixes })) parts.whole parts.header in
    let joined = header_is known head parts.rest header.counted in
    let same = unmarked (head ++ rest) (head_unmarked (header_lines (head ++ parts.rest)) head rest joined (known.marked (head ++ parts.rest)) is) in
    let now = head_again known head parts.rest rest prefixes header (some_rest parts.rest (columns ∷ records) parts.records_are (omega arith)) is.no_hash in
    let all = all_again (columns ∷ kept_records) (two, wide) in
    record {
      rest = rest;
      whole = same;
      header = subst (λ (t : List ℕ). IsHeadOf t (record { length = length head; prefixes = prefixes })) (sym same) now;
      records_are = (st.StartRecord, [], subst (λ (t : List ℕ). Reached tabbed st.StartRecord t (columns ∷ kept_records) st.StartRecord []) (sym (plain_stays rest is.no_mark)) all, at_end);
    }

-- the repaired text of a table is the text of the table of the kept rows
pub again : LinesAreKnown → ((text : List ℕ) → ((rest : List ℕ) → text ≢ byte_order_mark ++ rest) → without_mark text ≡ text)
    → (most : ℕ) (bytes : List ℕ) (table : Table) (keep : List Bool) → IsTableText most bytes table → BeginsPlainly table.columns
    → IsTableText most (repaired_text table keep) (kept_table table keep)
again known unmarked most bytes table keep is plain =
    let two = two_columns table.columns is.columns.complete in
    let records = kept keep is.records in
    let rows = kept_rows is.prefixes table.columns keep is.records table.rows is.rows in
    let wide = rows_wide is.prefixes table.columns records (kept keep table.rows) two rows in
    let parts = again_parts known unmarked bytes table.head is.prefixes table.columns is.records records is.parts two plain wide in
    let text = texts_match is.prefixes table.columns records (kept keep table.rows) rows in
    let few = kept_few keep is.records in
    record {
      prefixes = is.prefixes;
      records = records;
      parts = subst (λ (t : List ℕ). AreParts (table.head ++ (record_text table.columns ++ t)) table.head is.prefixes (table.columns ∷ records)) text parts;
      columns = is.columns;
      few = omega (arith, few, is.few);
      rows = rows;
    }
