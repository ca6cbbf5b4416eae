-- The rows that are read so far.
use Rattle.std.proofs.Common.{List, [], ◌∷◌, ◌++◌}
use Rattle.text_names.specs.Prefixes.{Prefixes}
use Rattle.sssom_rows.specs.declared.table.Row.{Row}
use Rattle.sssom_rows.specs.Records.{FieldList}
use Rattle.sssom_rows.specs.Tables.{IsRow, AreRows}

-- one more row
pub rows_and_one : (prefixes : Prefixes) (columns : FieldList) (records : List FieldList) (rows : List Row) (fields : FieldList) (row : Row)
    → AreRows prefixes columns records rows → IsRow prefixes columns fields row → AreRows prefixes columns (records ++ fields ∷ []) (rows ++ row ∷ [])
rows_and_one prefixes columns [] [] fields row are is = (is, tt)
rows_and_one prefixes columns [] (other ∷ rows) fields row are is = absurd are
rows_and_one prefixes columns (other ∷ records) [] fields row are is = absurd are
rows_and_one prefixes columns (other ∷ records) (held ∷ rows) fields row are is = (are.0, rows_and_one prefixes columns records rows fields row are.1 is)
