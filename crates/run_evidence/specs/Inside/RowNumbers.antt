-- Ranks and the numbers of their rows, where the order has the index of the row with each rank.
use Rattle.std.specs.Prelude.{ℕ, ◌+◌, ◌<◌, List, map, slice_index, Option, ⊤}
use Rattle.std.specs.Option.{option_map}
use Rattle.fact_table.specs.declared.types.Source.{Source}
use Rattle.derivation.specs.declared.types.Step.{Step}
use Rattle.commit_book.specs.Books.{why_at}
use Rattle.evidence_text.specs.declared.types.Removed.{Removed}
use Rattle.valid_evidence.specs.Rows.{rank_of_row}

-- a row that the source names has one of this number of ranks
abbrev pub HasRanksBelow : ℕ → Source → Type 0
HasRanksBelow ranks (Source.Row rank number) = rank < ranks
HasRanksBelow ranks _ = ⊤

-- a source with the number of the row in the place of its rank
abbrev pub source_by_row : List ℕ → Source → Source
source_by_row order (Source.Left number) = Source.Left number
source_by_row order (Source.Right number) = Source.Right number
source_by_row order (Source.Row rank number) = Source.Row (slice_index order rank + 1) number
source_by_row order Source.Nothing = Source.Nothing

abbrev pub step_by_row : List ℕ → Step → Step
step_by_row order step = record step { source = source_by_row order step.source }

-- the row with this index, with why it is removed
abbrev pub removed_row : List ℕ → ℕ → List Step → Removed
removed_row order index steps = record { row = index + 1; steps = map (step_by_row order) steps }

-- the same, if it is removed
abbrev pub removed_at : List ℕ → List (Option (List Step)) → ℕ → Option Removed
removed_at order whys index =
    option_map (removed_row order index) (why_at whys (rank_of_row order (index + 1)))
