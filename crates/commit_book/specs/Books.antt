-- What a book has, what it keeps, and what an event does to it.
use Rattle.std.specs.Prelude.{◌≡◌, ℕ, ◌≤◌, nat_lt, List, [], ◌∷◌, ◌++◌, filter, length, replicate, slice_index_or, Option, None, IsSomeAnd}
use Rattle.el_logic.specs.declared.types.Part.{Part}
use Rattle.case_file.specs.Cases.{CaseView, IsCase}
use Rattle.case_file.specs.Incoherence.{IsIncoherentFor}
use Rattle.closed_model.specs.ClosedTables.{TableView, IsClosedTable}
use Rattle.derivation.specs.declared.types.Step.{Step}
use Rattle.derivation.specs.Steps.{IsGoodDerivation}
use Rattle.accuse_core.specs.declared.mark.Mark.{Mark}
use Rattle.accuse_core.specs.declared.mark.Mark.TheVariants.{Open, Yes, Kept, Removed}
use Rattle.accuse_core.specs.declared.event.Event.{Event}
use Rattle.accuse_core.specs.declared.event.Event.TheVariants.{Take, TakeFront, No, Yes as YesTold, Block}
use Rattle.accuse_core.specs.declared.journal.Entry.{Entry}
use Rattle.accuse_core.specs.Marks.{opening, mark_at, kept_of}
use Rattle.accuse_core.specs.Events.{outcome}
use Rattle.accuse_core.specs.Journal.{replayed, IsJournal}

-- a case, the marks of the core, the journal, the table of the kept ranks, for each removed rank
-- why it is, and whether the next call has its room and its table (1) or not (0)
pub record BookView : Type 0 where
  pub case : CaseView
  pub marks : List Mark
  pub entries : List Entry
  pub table : TableView
  pub whys : List (Option (List Step))
  pub spare : ℕ

-- how many ranks there are
abbrev pub ranks_of : CaseView → ℕ
ranks_of case = length case.order

-- why a rank is removed
abbrev pub why_at : List (Option (List Step)) → ℕ → Option (List Step)
why_at whys rank = slice_index_or whys rank None

-- of the kept ranks those before a rank
abbrev pub kept_before : List ℕ → ℕ → List ℕ
kept_before kept rank = filter (λ other. nat_lt other rank) kept

-- a removed rank has a good derivation over the kept ranks before it and itself, and no other rank
-- has one
abbrev pub IsWhyOf : CaseView → List ℕ → ℕ → Mark → Option (List Step) → Type 0
IsWhyOf case kept rank Open why = why ≡ None
IsWhyOf case kept rank (Yes seen) why = why ≡ None
IsWhyOf case kept rank Kept why = why ≡ None
IsWhyOf case kept rank Removed why =
    IsSomeAnd why (IsGoodDerivation case Part.Both (kept_before kept rank ++ rank ∷ []))

-- the table is of this case for these ranks
pub record IsTableFor (case : CaseView) (ranks : List ℕ) (table : TableView) : Type 0 where
  pub case_is : table.case ≡ case
  pub ranks_are : table.ranks ≡ ranks

-- each entry was allowed and has the core's reply; the marks are those that the journal leads to,
-- one for each rank of the case; each removed rank has its derivation; the table is closed, for
-- the kept ranks
pub record IsBook (book : BookView) : Type 0 where
  pub case_is : IsCase book.case
  pub journal : IsJournal (IsIncoherentFor book.case Part.Both) (ranks_of book.case) book.entries
  pub core : book.marks ≡ replayed (ranks_of book.case) book.entries
  pub ranks : length book.marks ≡ ranks_of book.case
  pub whys : (rank : ℕ) → IsWhyOf book.case (kept_of book.marks) rank (mark_at book.marks rank)
      (why_at book.whys rank)
  pub table : IsTableFor book.case (kept_of book.marks) book.table
  pub closed : IsClosedTable book.table
  pub spare : book.spare ≤ 1

-- the book in which nothing was told yet
abbrev pub opening_book : TableView → BookView
opening_book base = record {
  case = base.case;
  marks = opening (ranks_of base.case);
  entries = [];
  table = base;
  whys = replicate (ranks_of base.case) None;
  spare = 0;
}

-- an event with the core's reply
abbrev pub entry_of : List Mark → Event → Entry
entry_of marks event = record { event = event; reply = (outcome marks event).reply }

-- the event is entered: the core has changed by it, and the journal has one more entry, with the
-- core's reply
pub record EntersEvent (event : Event) (before after : BookView) : Type 0 where
  pub case : after.case ≡ before.case
  pub marks : after.marks ≡ (outcome before.marks event).marks
  pub entries : after.entries ≡ before.entries ++ entry_of before.marks event ∷ []
  pub spare : after.spare ≡ 0

-- who made an entry
abbrev pub worker_of : Event → ℕ
worker_of (Take worker rank) = worker
worker_of (TakeFront worker) = worker
worker_of (No worker rank seen) = worker
worker_of (YesTold worker rank seen) = worker
worker_of (Block worker rank count seen) = worker
