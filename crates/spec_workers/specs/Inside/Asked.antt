-- What a worker was given to test, at its place of the journal.
use Rattle.std.specs.Prelude.{◌≡◌, ℕ, ◌≤◌, ◌<◌, IfSome, Option, List, All, take, ⊤}
use Rattle.case_file.specs.Cases.{CaseView}
use Rattle.commit_lock.specs.Entries.{IsBeginning}
use Rattle.accuse_core.specs.declared.mark.Mark.{Mark}
use Rattle.accuse_core.specs.declared.journal.Entry.{Entry}
use Rattle.accuse_core.specs.Marks.{front_of, kept_of, number_kept}
use Rattle.accuse_core.specs.Journal.{replayed}
use Rattle.commit_book.specs.declared.answers.Taken.{Taken}
use Rattle.commit_book.specs.declared.answers.TakeAnswer.{TakeAnswer}
use Rattle.commit_book.specs.declared.answers.TakeAnswer.TheVariants as T
use Rattle.commit_book.specs.declared.answers.FrontAnswer.{FrontAnswer}
use Rattle.commit_book.specs.declared.answers.FrontAnswer.TheVariants as F
use Rattle.commit_book.specs.Books.{IsTableFor, ranks_of}

-- the marks after these entries
abbrev pub marks_after : CaseView → List Entry → List Mark
marks_after case entries = replayed (ranks_of case) entries

-- the rank is one of the case, and comes after the ranks of the snapshot; these are the first kept
-- ones, as many as were seen, after these entries
pub record IsTakenAt (case : CaseView) (entries : List Entry) (taken : Taken) : Type 0 where
  pub inside : taken.rank < ranks_of case
  pub few : taken.seen ≤ number_kept (marks_after case entries)
  pub snapshot : IsTableFor case (take taken.seen (kept_of (marks_after case entries)))
      taken.snapshot
  pub before : All (λ old. old < taken.rank) taken.snapshot.ranks

-- what is answered is of this rank, or of the one at the front, and has seen all kept ranks
abbrev pub GivesTake : CaseView → List Entry → ℕ → TakeAnswer → Type 0
GivesTake case entries rank T.Over = ⊤
GivesTake case entries rank (T.Seen taken) = (taken.rank ≡ rank)
    × (taken.seen ≡ number_kept (marks_after case entries)) × IsTakenAt case entries taken

abbrev pub GivesFrontTake : CaseView → List Entry → FrontAnswer → Type 0
GivesFrontTake case entries F.Done = ⊤
GivesFrontTake case entries (F.Front taken) =
    (taken.rank ≡ front_of (marks_after case entries))
    × (taken.seen ≡ number_kept (marks_after case entries)) × IsTakenAt case entries taken

-- of what was kept after the first entries, the first ranks are still the first after all
abbrev pub KeepsFirst : CaseView → List Entry → List Entry → Type 0
KeepsFirst case before after = (seen : ℕ) → seen ≤ number_kept (marks_after case before)
    → (seen ≤ number_kept (marks_after case after))
    × (take seen (kept_of (marks_after case after)) ≡ take seen (kept_of (marks_after case before)))

-- after whatever beginning of these entries
abbrev pub KeepsFirstOf : CaseView → List Entry → Type 0
KeepsFirstOf case entries =
    (earlier : List Entry) → IsBeginning earlier entries → KeepsFirst case earlier entries

-- what may be tested of a rank before it is taken is of this rank
abbrev pub GivesAhead : CaseView → List Entry → ℕ → Option Taken → Type 0
GivesAhead case entries rank found =
    IfSome found (λ taken. (taken.rank ≡ rank) × IsTakenAt case entries taken)
