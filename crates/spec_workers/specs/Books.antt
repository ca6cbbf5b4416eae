-- The lock round a book, and the entries of one seat.
use Rattle.std.specs.Prelude.{◌≡◌, ℕ, List, ◌++◌}
use Rattle.case_file.specs.Cases.{CaseView}
use Rattle.commit_lock.specs.declared.lock.CommitLock.{CommitLock}
use Rattle.commit_lock.specs.Seats.{case_of}
use Rattle.commit_lock.specs.Entries.{IsBeginning, made_by}
use Rattle.accuse_core.specs.declared.journal.Entry.{Entry}
use Rattle.commit_book.specs.Books.{BookView, ranks_of, worker_of}

abbrev pub BookLock : Type 0
BookLock = CommitLock BookView CaseView Entry

-- the case of the book under a lock, and how many ranks it has
abbrev pub lock_case : BookLock → CaseView
lock_case lock = case_of (λ (book : BookView). book.case) lock

abbrev pub ranks_at : BookLock → ℕ
ranks_at lock = ranks_of (lock_case lock)

-- the entries that carry this number
abbrev pub own_of : ℕ → List Entry → List Entry
own_of number entries = made_by (λ (entry : Entry). worker_of entry.event) number entries

-- what was seen before begins what is seen after, and of the entries with this number exactly
-- `told` are new
pub record Tells (number : ℕ) (before after told : List Entry) : Type 0 where
  pub seen : IsBeginning before after
  pub own : own_of number after ≡ own_of number before ++ told
