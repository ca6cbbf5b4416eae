-- A book to which one worker has added entries.
use Rattle.std.specs.Prelude.{◌≡◌, ℕ, List, ◌++◌, All}
use Rattle.accuse_core.specs.declared.journal.Entry.{Entry}
use Rattle.commit_book.specs.Books.{BookView, worker_of}

-- the case stays, and these entries, all by this worker, are new
pub record IsGrown (worker : ℕ) (before after : BookView) (more : List Entry) : Type 0 where
  pub case_is : after.case ≡ before.case
  pub entries : after.entries ≡ before.entries ++ more
  pub by_worker : All (λ (entry : Entry). worker_of entry.event ≡ worker) more
