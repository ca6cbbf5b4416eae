-- What a writer has written.
use Rattle.std.proofs.Common.{◌≡◌, ◌≢◌, ◌<◌, ℕ, suc, Bool, true, false, List, [], ◌∷◌, ◌++◌, length, drop, get_or, Option, Some, None, refl, sym, ap, ◌∙◌, drop-cons, arith, ◌≤◌, zero, ◌+◌, add-one}
use Rattle.std.proofs.lemmas.List.{append-nil}
use Rattle.std.specs.Io.KnownBytes.{Appends, Keeps}
use Rattle.csv.specs.Writing.{writer_setup, fields_written, has_written, text_written, row_text}
use Rattle.csv.specs.declared.writer.QuoteStyle.TheVariants as style
use Rattle.csv.specs.declared.writer.Writer.{Writer}
use Rattle.sssom_rows.specs.Records.{FieldList}
use Rattle.sssom_rows.specs.declared.table.Row.{Row}
use Rattle.repaired_table.specs.Repaired.{record_text, kept, rows_text}
use Rattle.repaired_table.specs.Inside.{HasWritten}

-- known bytes that grew are known
appended : (old new : Option (List ℕ)) (text more : List ℕ) → old ≡ Some text → Appends old new more → new ≡ Some (text ++ more)
appended None new text more is grew = absurd (cc is)
appended (Some xs) None text more is grew = absurd grew
appended (Some xs) (Some ys) text more is grew =
    let same : xs ≡ text = cc is in
    ap Some (grew ∙ ap (λ (x : List ℕ). x ++ more) same)

-- and so are those that stayed
pub stayed : (old : Option (List ℕ)) (new text : List ℕ) → old ≡ Some text → Keeps old (Some new) → new ≡ text
stayed None new text is kept_on = absurd (cc is)
stayed (Some xs) new text is kept_on = kept_on ∙ cc is

-- a record more
pub one_written : {W : Type 0} (contents : W → Option (List ℕ)) (old new : Writer W) (text : List ℕ) (fields : FieldList) → HasWritten contents old text
    → writer_setup new ≡ writer_setup old → fields_written new ≡ 0 → has_written new ≡ false
    → ((writer_setup old).style ≢ style.NonNumeric → Appends (text_written contents old) (text_written contents new) (row_text (writer_setup old) fields))
    → HasWritten contents new (text ++ record_text fields)
one_written contents old new text fields held same ended clean appends =
    let plain : (writer_setup old).style ≢ style.NonNumeric = rw held.setup (λ e. cc e) in
    record {
      setup = same ∙ held.setup;
      ended = ended;
      clean = clean;
      written = appended (text_written contents old) (text_written contents new) text (record_text fields) held.written (rw held.setup at (appends plain));
    }

-- the kept rows from a place on, where the row at the place is kept and where it is not
kept_by : (keeps : Bool) (keep : List Bool) (row : Row) (rows : List Row) → keeps ≡ true → rows_text (kept (keeps ∷ keep) (row ∷ rows)) ≡ record_text row.fields ++ rows_text (kept keep rows)
kept_by keeps keep row rows is = rw is refl

-- and where it is not
left_by : (keeps : Bool) (keep : List Bool) (row : Row) (rows : List Row) → keeps ≡ false → rows_text (kept (keeps ∷ keep) (row ∷ rows)) ≡ rows_text (kept keep rows)
left_by keeps keep row rows is = rw is refl

-- the same at a place of the lists
pub kept_at : (keep : List Bool) (rows : List Row) (i : ℕ) (row : Row) → i < length rows → i < length keep → row ≡ get_or rows i row → get_or keep i false ≡ true
    → rows_text (kept (drop i keep) (drop i rows)) ≡ record_text row.fields ++ rows_text (kept (drop (i + 1) keep) (drop (i + 1) rows))
kept_at keep rows i row in_rows in_keep here is =
    rw (drop-cons rows i row in_rows, drop-cons keep i false in_keep, ← here, add-one i) (kept_by (get_or keep i false) (drop (suc i) keep) row (drop (suc i) rows) is)

-- the list from a place on has a first element
some_first : (rows : List Row) (i : ℕ) → i < length rows → (row : Row) × (drop i rows ≡ row ∷ drop (suc i) rows)
some_first [] i within = absurd (omega arith)
some_first (row ∷ rows) zero within = (row, refl)
some_first (row ∷ rows) (suc i) within = some_first rows i (omega arith)

-- and where the row at the place is left out
pub left_at : (keep : List Bool) (rows : List Row) (i : ℕ) → i < length rows → i < length keep → get_or keep i false ≡ false
    → rows_text (kept (drop i keep) (drop i rows)) ≡ rows_text (kept (drop (i + 1) keep) (drop (i + 1) rows))
left_at keep rows i in_rows in_keep is =
    let first = some_first rows i in_rows in
    rw (first.1, drop-cons keep i false in_keep, add-one i) (left_by (get_or keep i false) (drop (suc i) keep) first.0 (drop (suc i) rows) is)

-- past the last row nothing is kept
none_left : (rows : List Row) (i : ℕ) → length rows ≤ i → drop i rows ≡ []
none_left [] zero past = refl
none_left [] (suc i) past = refl
none_left (row ∷ rows) zero past = absurd (omega arith)
none_left (row ∷ rows) (suc i) past = none_left rows i (omega arith)

-- so all is written then
pub all_done : (done text : List ℕ) (keep keeps : List Bool) (rows : List Row) (i : ℕ) → length rows ≤ i
    → done ++ rows_text (kept keeps (drop i rows)) ≡ text ++ rows_text (kept keep rows) → done ≡ text ++ rows_text (kept keep rows)
all_done done text keep keeps rows i past whole =
    let nothing : rows_text (kept keeps (drop i rows)) ≡ [] = rw (none_left rows i past) refl in
    sym (append-nil done) ∙ ap (λ (x : List ℕ). done ++ x) (sym nothing) ∙ whole
