-- What removed rows say of the ranks of a table, where the order has the index of the row with each
-- rank. Rows have indexes from 0 and numbers from 1; evidence speaks of numbers.
use Rattle.std.specs.Prelude.{◌≡◌, ℕ, zero, suc, ◌+◌, ◌<◌, ◌==◌, nat_lt, Bool, not, if◌then◌else◌, List, [], ◌∷◌, ◌++◌, map, filter, length, slice_index}
use Rattle.std.specs.List.{list_any, range_with_len}
use Rattle.fact_table.specs.declared.types.Source.{Source}
use Rattle.derivation.specs.declared.types.Step.{Step}
use Rattle.accuse_core.specs.declared.mark.Mark.{Mark}
use Rattle.accuse_core.specs.declared.mark.Mark.TheVariants.{Kept, Removed as RemovedMark}
use Rattle.accuse_core.specs.Marks.{kept_of}
use Rattle.evidence_text.specs.declared.types.Removed.{Removed}

-- the row with this index is one of the removed ones
abbrev pub is_taken_out : List Removed → ℕ → Bool
is_taken_out removed index = list_any (λ r. r.row == index + 1) removed

-- for each of so many rows whether it is left
abbrev pub rows_left : List Removed → ℕ → List Bool
rows_left removed rows = map (λ index. not (is_taken_out removed index)) (range_with_len 0 rows)

-- the mark of the row with this index once all ranks are decided
abbrev pub decided_mark : List Removed → ℕ → Mark
decided_mark removed index = if is_taken_out removed index then RemovedMark else Kept

-- the marks of all ranks: those of removed rows are `Removed`, all others are `Kept`
abbrev pub decided_marks : List Removed → List ℕ → List Mark
decided_marks removed order = map (decided_mark removed) order

-- the ranks of the rows that are left, in ascending order
abbrev pub ranks_left : List Removed → List ℕ → List ℕ
ranks_left removed order = kept_of (decided_marks removed order)

-- of some ranks those before this one, and then this one
abbrev pub ranks_up_to : List ℕ → ℕ → List ℕ
ranks_up_to kept rank = filter (λ other. nat_lt other rank) kept ++ rank ∷ []

-- no row is at two places of the order
abbrev pub IsOnce : List ℕ → Type 0
IsOnce order = (one other : ℕ) → one < length order → other < length order
    → slice_index order one ≡ slice_index order other → one ≡ other

-- the rank of the row with this number; the number of ranks if there is no such row
abbrev pub rank_of_row : List ℕ → ℕ → ℕ
rank_of_row [] row = zero
rank_of_row (index ∷ order) row = if index + 1 == row then zero else suc (rank_of_row order row)

-- a source that has the number of a row in the place of its rank, by the rank. A number that is no
-- row's becomes a rank that no row has.
abbrev pub source_by_rank : List ℕ → Source → Source
source_by_rank order (Source.Left number) = Source.Left number
source_by_rank order (Source.Right number) = Source.Right number
source_by_rank order (Source.Row row number) = Source.Row (rank_of_row order row) number
source_by_rank order Source.Nothing = Source.Nothing

abbrev pub step_by_rank : List ℕ → Step → Step
step_by_rank order step = record step { source = source_by_rank order step.source }

-- so are the steps of evidence read: their rows have numbers, those of a derivation have ranks
abbrev pub steps_by_rank : List ℕ → List Step → List Step
steps_by_rank order steps = map (step_by_rank order) steps
