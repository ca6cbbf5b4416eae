-- The first row, step or entry that fails, and sources by the numbers of their rows.
use Rattle.std.specs.Prelude.{◌≡◌, ℕ, ◌+◌, List, take, slice_get, slice_index, Some, All}
use Rattle.el_logic.specs.declared.types.Part.{Part}
use Rattle.fact_table.specs.declared.types.Source.{Source}
use Rattle.derivation.specs.declared.types.BadStep.{BadStep}
use Rattle.derivation.specs.Steps.{IsBadStep}
use Rattle.accuse_core.specs.declared.mark.Mark.{Mark}
use Rattle.accuse_core.specs.declared.journal.Entry.{Entry}
use Rattle.accuse_core.specs.Marks.{opening}
use Rattle.accuse_core.specs.Events.{IsFitting, outcome}
use Rattle.accuse_core.specs.Journal.{AreReplied, replayed}
use Rattle.case_file.specs.Cases.{CaseView}
use Rattle.evidence_text.specs.declared.types.Removed.{Removed}
use Rattle.valid_evidence.specs.Rows.{ranks_left, ranks_up_to, rank_of_row, steps_by_rank}
use Rattle.valid_evidence.specs.Items.{IsShownEmpty}

-- of some removed rows this is the first of which something doesn't hold
pub record IsFirstWithout (Holds : Removed → Type 0) (removed : List Removed) (r : Removed) : Type 0 where
  pub place : ℕ
  pub there : slice_get removed place ≡ Some r
  pub before : All Holds (take place removed)
  pub fails : ¬ (Holds r)

-- the steps of the removed row with this number are the first that are not good, for this reason
abbrev pub AreBadSteps : CaseView → List Removed → ℕ → BadStep → Type 0
AreBadSteps case removed row reason =
    (r : Removed) × (r.row ≡ row) × IsFirstWithout (IsShownEmpty case removed) removed r
    × IsBadStep case Part.Both (ranks_up_to (ranks_left removed case.order) (rank_of_row case.order r.row))
    (steps_by_rank case.order r.steps) reason

-- a source by the number of its row
abbrev pub source_by_row : List ℕ → Source → Source
source_by_row order (Source.Left number) = Source.Left number
source_by_row order (Source.Right number) = Source.Right number
source_by_row order (Source.Row rank number) = Source.Row (slice_index order rank + 1) number
source_by_row order Source.Nothing = Source.Nothing

-- the entry fits and has the core's reply
abbrev pub IsReplied : List Mark → Entry → Type 0
IsReplied marks entry = IsFitting marks entry.event × (entry.reply ≡ (outcome marks entry.event).reply)

-- the entry with this number, from 1, is the first that doesn't
abbrev pub IsFirstUnreplied : ℕ → List Entry → ℕ → Type 0
IsFirstUnreplied ranks entries number = (k : ℕ) × (entry : Entry) × (number ≡ k + 1)
    × (slice_get entries k ≡ Some entry) × AreReplied (opening ranks) (take k entries)
    × ¬ (IsReplied (replayed ranks (take k entries)) entry)
