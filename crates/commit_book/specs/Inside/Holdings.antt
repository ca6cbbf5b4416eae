-- What the book holds for each rank.
use Rattle.std.specs.Prelude.{◌≡◌, ℕ, ◌≤◌, ◌<◌, List, [], ◌∷◌, ◌++◌, take, length, slice_index_or, Option, None, Some, IfSome, ⊤, ◌⊎◌}
use Rattle.el_logic.specs.declared.types.Part.{Part}
use Rattle.case_file.specs.Cases.{CaseView, IsCase}
use Rattle.case_file.specs.Incoherence.{IsIncoherentFor}
use Rattle.closed_model.specs.ClosedTables.{TableView, IsClosedTable}
use Rattle.derivation.specs.declared.types.Step.{Step}
use Rattle.derivation.specs.Steps.{IsGoodDerivation}
use Rattle.accuse_core.specs.declared.mark.Mark.{Mark}
use Rattle.accuse_core.specs.declared.mark.Mark.TheVariants.{Open, Yes, Kept, Removed}
use Rattle.accuse_core.specs.declared.journal.Entry.{Entry}
use Rattle.accuse_core.specs.Marks.{mark_at, kept_of}
use Rattle.accuse_core.specs.Journal.{replayed, IsJournal}
use Rattle.commit_book.specs.declared.held.Held.{Held}
use Rattle.commit_book.specs.declared.held.Held.TheVariants.{Nothing, Note, Why}
use Rattle.commit_book.specs.Books.{ranks_of, kept_before, IsTableFor}

-- the derivation that is held
abbrev pub why_of : Held → Option (List Step)
why_of Nothing = None
why_of (Note table) = None
why_of (Why steps) = Some steps

-- nothing in the place of a table
abbrev pub without_note : Held → Held
without_note Nothing = Nothing
without_note (Note table) = Nothing
without_note (Why steps) = Why steps

abbrev pub held_at : List Held → ℕ → Held
held_at held rank = slice_index_or held rank Nothing

-- a table for the first kept ranks that were seen, followed by the rank
pub record IsNoteFor (case : CaseView) (kept : List ℕ) (seen rank : ℕ) (table : TableView)
    : Type 0 where
  pub few : seen ≤ length kept
  pub is_for : IsTableFor case (take seen kept ++ rank ∷ []) table
  pub closed : IsClosedTable table

-- what is held for a rank is what its mark needs: a table for a yes, a derivation for a removed one
abbrev pub IsBacked : CaseView → List ℕ → ℕ → Mark → Held → Type 0
IsBacked case kept rank Open Nothing = ⊤
IsBacked case kept rank Open _ = ⊥
IsBacked case kept rank (Yes seen) (Note table) = IsNoteFor case kept seen rank table
IsBacked case kept rank (Yes seen) _ = ⊥
IsBacked case kept rank Kept Nothing = ⊤
IsBacked case kept rank Kept _ = ⊥
IsBacked case kept rank Removed (Why steps) =
    IsGoodDerivation case Part.Both (kept_before kept rank ++ rank ∷ []) steps
IsBacked case kept rank Removed _ = ⊥

-- for each rank
abbrev pub AreBacked : CaseView → List ℕ → List Mark → List Held → Type 0
AreBacked case kept marks held =
    (rank : ℕ) → IsBacked case kept rank (mark_at marks rank) (held_at held rank)

-- the table is the one of all kept ranks, and each mark is backed
pub record IsSettled (case : CaseView) (marks : List Mark) (held : List Held) (table : TableView)
    : Type 0 where
  pub backed : AreBacked case (kept_of marks) marks held
  pub is_for : IsTableFor case (kept_of marks) table
  pub closed : IsClosedTable table

-- the last of the kept ranks was kept just now, and its table is still held for it
pub record IsLastHeld (case : CaseView) (marks : List Mark) (held : List Held)
    (table : TableView) (last : ℕ) : Type 0 where
  pub kept : kept_of marks ≡ table.ranks ++ last ∷ []
  pub inside : last < length held
  pub its_mark : mark_at marks last ≡ Kept
  pub others : (rank : ℕ) → (rank ≡ last → ⊥)
      → IsBacked case (kept_of marks) rank (mark_at marks rank) (held_at held rank)
  pub its_table : TableView
  pub is_held : held_at held last ≡ Note its_table
  pub is_for : IsTableFor case (kept_of marks) its_table
  pub closed : IsClosedTable its_table

-- after an event: the front may have come to a rank that waited with its table
abbrev pub IsNearlySettled : CaseView → List Mark → List Held → TableView → Type 0
IsNearlySettled case marks held table =
    IsSettled case marks held table ⊎ ((last : ℕ) × IsLastHeld case marks held table last)

-- what the type keeps
pub record IsKept (case : CaseView) (marks : List Mark) (entries : List Entry)
    (held : List Held) (table : TableView) : Type 0 where
  pub case_is : IsCase case
  pub journal : IsJournal (IsIncoherentFor case Part.Both) (ranks_of case) entries
  pub core : marks ≡ replayed (ranks_of case) entries
  pub ranks : length marks ≡ ranks_of case
  pub count : length held ≡ length marks
  pub settled : IsSettled case marks held table

-- the next call's table is a share of this one, and there is room for its entry
abbrev pub IsReady : TableView → ℕ → Option TableView → Type 0
IsReady table room next = IfSome next (λ share. (share ≡ table) × (1 ≤ room))

abbrev pub spare_of : Option TableView → ℕ
spare_of None = 0
spare_of (Some share) = 1
