-- What is read off removed rows.
use Rattle.std.specs.Prelude.{◌≡◌, ℕ, ◌+◌, ◌<◌, ◌≤◌, Bool, false, if◌then◌else◌, List, length, map, slice_index, slice_index_or, All}
use Rattle.std.specs.List.{range_with_len}
use Rattle.accuse_core.specs.declared.mark.Mark.{Mark}
use Rattle.accuse_core.specs.declared.mark.Mark.TheVariants as M
use Rattle.accuse_core.specs.Marks.{kept_of}
use Rattle.case_file.specs.Cases.{CaseView, AreRanksOf}
use Rattle.evidence_text.specs.declared.types.Removed.{Removed}
use Rattle.valid_evidence.specs.Rows.{rank_of_row, rows_left, ranks_left}
use Rattle.check_items.specs.declared.rows.RowTables.{RowTables}

-- each row of the order is one of so many as it has places
abbrev pub HasItsRows : List ℕ → Type 0
HasItsRows order = (k : ℕ) → k < length order → slice_index order k < length order

-- each removed row is one of so many rows
abbrev pub AreRowsOf : ℕ → List Removed → Type 0
AreRowsOf rows removed = All (λ r. (1 ≤ r.row) × (r.row ≤ rows)) removed

-- the rank of each row, by its index
abbrev pub row_ranks : List ℕ → List ℕ
row_ranks order = map (λ index. rank_of_row order (index + 1)) (range_with_len 0 (length order))

-- the mark of the row with this index, where these rows are left
abbrev pub mark_by : List Bool → ℕ → Mark
mark_by keep index = if slice_index_or keep index false then M.Kept else M.Removed

abbrev pub marks_by : List Bool → List ℕ → List Mark
marks_by keep order = map (mark_by keep) order

-- the ranks of the rows that are left
abbrev pub ranks_by : List Bool → List ℕ → List ℕ
ranks_by keep order = kept_of (marks_by keep order)

-- the tables of the removed rows of a case
pub record AreTablesOf (case : CaseView) (removed : List Removed) (tables : RowTables) : Type 0 where
  pub keep : tables.keep.items ≡ rows_left removed (length case.order)
  pub kept : tables.kept.items ≡ ranks_left removed case.order
  pub ranks : tables.ranks.items ≡ row_ranks case.order
  pub are_ranks : AreRanksOf case tables.kept.items
