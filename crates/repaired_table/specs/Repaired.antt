-- The text of a table with some of its rows.
use Rattle.std.specs.Prelude.{◌≡◌, ◌≢◌, ℕ, Bool, true, false, if◌then◌else◌, List, [], ◌∷◌, ◌++◌, ⊤}
use Rattle.csv.specs.Writing.{default_writer, row_text}
use Rattle.csv.specs.declared.writer.WriterBuilder.{WriterBuilder}
use Rattle.byte_words.specs.Fronts.{byte_order_mark}
use Rattle.sssom_head.specs.Lines.{begins_with_hash}
use Rattle.sssom_rows.specs.Records.{FieldList}
use Rattle.sssom_rows.specs.declared.table.Row.{Row}
use Rattle.sssom_rows.specs.declared.table.Table.{Table}

-- tabs between fields, and a line feed after a record
abbrev pub tab_writer : WriterBuilder
tab_writer = record default_writer { delimiter = 9; flexible = true }

-- the text of a record, as csv states it
abbrev pub record_text : FieldList → List ℕ
record_text fields = row_text tab_writer fields

-- the elements that are kept, each by its own truth value
abbrev pub kept : {X : Type 0} → List Bool → List X → List X
kept keep [] = []
kept [] (x ∷ xs) = []
kept (keeps ∷ keep) (x ∷ xs) = if keeps then x ∷ kept keep xs else kept keep xs

-- the texts of rows, one after another
abbrev pub rows_text : List Row → List ℕ
rows_text [] = []
rows_text (row ∷ rows) = record_text row.fields ++ rows_text rows

-- the header lines as they are, the columns, and the kept rows in their order
abbrev pub repaired_text : Table → List Bool → List ℕ
repaired_text table keep = table.head ++ (record_text table.columns ++ rows_text (kept keep table.rows))

-- the table of the kept rows
abbrev pub kept_table : Table → List Bool → Table
kept_table table keep = record { head = table.head; columns = table.columns; rows = kept keep table.rows }

-- the first column begins neither with # nor with a byte order mark
abbrev pub BeginsPlainly : FieldList → Type 0
BeginsPlainly [] = ⊤
BeginsPlainly (name ∷ names) = (begins_with_hash name ≡ false) × ((rest : List ℕ) → name ≢ byte_order_mark ++ rest)
