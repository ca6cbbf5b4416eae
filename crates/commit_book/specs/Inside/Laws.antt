-- The laws of the crates below that the calls of a book rest on.
use Rattle.std.specs.Prelude.{◌≡◌, ◌↔◌, ℕ, ◌+◌, ◌≤◌, ◌<◌, true, false, List, [], ◌∷◌, ◌++◌, length, Contains}
use Rattle.el_logic.specs.declared.types.Part.{Part}
use Rattle.case_file.specs.Cases.{CaseView}
use Rattle.case_file.specs.Incoherence.{IsIncoherentFor}
use Rattle.closed_model.specs.ClosedTables.{TableView, IsClosedTable}
use Rattle.derivation.specs.declared.types.Step.{Step}
use Rattle.derivation.specs.Steps.{IsGoodDerivation}
use Rattle.accuse_core.specs.declared.mark.Mark.{Mark}
use Rattle.accuse_core.specs.declared.mark.Mark.TheVariants.{Kept}
use Rattle.accuse_core.specs.declared.event.Event.{Event}
use Rattle.accuse_core.specs.declared.journal.Entry.{Entry}
use Rattle.accuse_core.specs.Marks.{is_decided, is_yes_over, kept_unless_removed, with_kept, with_removed, with_note, with_block, block_of, settled, mark_at, kept_of, number_kept, front_of}
use Rattle.accuse_core.specs.Events.{outcome, on_take, on_take_front, IsAllowed}
use Rattle.accuse_core.specs.Journal.{replayed, IsJournal}
use Rattle.accuse_core.specs.Sound.{AreKeptBeforeFront}

-- that asking leaves the marks, and what the kept ranks are after each change
pub record KeptLaws : Type 0 where
  pub asking : (marks : List Mark) (rank : ℕ) → (on_take marks rank).marks ≡ marks
  pub asking_front : (marks : List Mark) → (on_take_front marks).marks ≡ marks
  pub front : (marks : List Mark) → AreKeptBeforeFront marks → front_of marks < length marks
      → kept_of (with_kept marks (front_of marks)) ≡ kept_of marks ++ front_of marks ∷ []
  pub block : (marks : List Mark) (count : ℕ) → AreKeptBeforeFront marks
      → kept_of (with_block marks (front_of marks) count)
      ≡ kept_of marks ++ block_of marks (front_of marks) count
  pub removed : (marks : List Mark) (rank : ℕ) → is_decided (mark_at marks rank) ≡ false
      → kept_of (with_removed marks rank) ≡ kept_of marks
  pub noted : (marks : List Mark) (rank seen : ℕ) → is_decided (mark_at marks rank) ≡ false
      → kept_of (with_note marks rank seen) ≡ kept_of marks
  pub waiting : (marks : List Mark) → AreKeptBeforeFront marks
      → is_yes_over (number_kept marks) (mark_at marks (front_of marks)) ≡ true
      → kept_of (settled marks) ≡ kept_of marks ++ front_of marks ∷ []
  pub its_mark : (marks : List Mark) (rank : ℕ)
      → Contains (kept_of marks) rank ↔ (mark_at marks rank ≡ Kept)

-- what the marks are after a block
pub record BlockLaws : Type 0 where
  pub within : (marks : List Mark) (rank count other : ℕ)
      → rank ≤ other → other < rank + count → other < length marks
      → mark_at (with_block marks rank count) other ≡ kept_unless_removed (mark_at marks other)
  pub before : (marks : List Mark) (rank count other : ℕ) → other < rank
      → mark_at (with_block marks rank count) other ≡ mark_at marks other
  pub past : (marks : List Mark) (rank count other : ℕ) → rank + count ≤ other
      → mark_at (with_block marks rank count) other ≡ mark_at marks other

-- how a journal grows
pub record JournalLaws (case : CaseView) : Type 0 where
  pub grows : (ranks : ℕ) (entries : List Entry) (entry : Entry)
      → IsJournal (IsIncoherentFor case Part.Both) ranks entries
      → IsAllowed (IsIncoherentFor case Part.Both) (replayed ranks entries) entry.event
      → entry.reply ≡ (outcome (replayed ranks entries) entry.event).reply
      → IsJournal (IsIncoherentFor case Part.Both) ranks (entries ++ entry ∷ [])
  pub replays : (ranks : ℕ) (entries : List Entry) (entry : Entry)
      → replayed ranks (entries ++ entry ∷ [])
      ≡ (outcome (replayed ranks entries) entry.event).marks
  pub count : (marks : List Mark) (event : Event)
      → length (outcome marks event).marks ≡ length marks

-- what derivations and tables show
pub record VerdictLaws (case : CaseView) : Type 0 where
  pub no : (ranks : List ℕ) (steps : List Step)
      → ((rank : ℕ) → Contains ranks rank → rank < length case.order)
      → IsGoodDerivation case Part.Both ranks steps → IsIncoherentFor case Part.Both ranks
  pub yes : (table : TableView) → table.case ≡ case → IsClosedTable table
      → ¬ (IsIncoherentFor case Part.Both table.ranks)
  pub more : (ranks more : List ℕ) (steps : List Step)
      → ((rank : ℕ) → Contains ranks rank → Contains more rank)
      → IsGoodDerivation case Part.Both ranks steps → IsGoodDerivation case Part.Both more steps

pub record Laws (case : CaseView) : Type 0 where
  pub kept : KeptLaws
  pub block : BlockLaws
  pub journal : JournalLaws case
  pub verdict : VerdictLaws case
