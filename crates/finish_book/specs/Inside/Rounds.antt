-- A round: the front is asked for, a block is kept, and the rank after it is removed.
use Rattle.std.specs.Prelude.{◌≡◌, ℕ, ◌+◌, ◌*◌, ◌<◌, ◌≤◌, true, List, ◌++◌, length}
use Rattle.accuse_core.specs.declared.mark.Mark.TheVariants.{Removed}
use Rattle.accuse_core.specs.Marks.{is_decided, mark_at, front_of, kept_of}
use Rattle.commit_book.specs.declared.answers.Taken.{Taken}
use Rattle.commit_book.specs.Books.{BookView, IsTableFor, ranks_of}
use Rattle.finish_book.specs.Finishing.{IsFinishedBy, removed_of}
use Rattle.finish_book.specs.Inside.Runs.{with_run}

-- the rank is the one at the front, and the snapshot is of all kept ranks
pub record IsAtFront (book : BookView) (taken : Taken) : Type 0 where
  pub rank_is : taken.rank ≡ front_of book.marks
  pub inside : taken.rank < ranks_of book.case
  pub snapshot_is : IsTableFor book.case (kept_of book.marks) taken.snapshot

-- the case stays, entries are appended, at most so many, and what was decided stays so
pub record GoesOn (most : ℕ) (before after : BookView) : Type 0 where
  pub case_is : after.case ≡ before.case
  pub entries : IsFinishedBy before.entries after.entries
  pub few : length after.entries ≤ length before.entries + most
  pub as_many : length after.marks ≡ length before.marks
  pub decided : (rank : ℕ) → is_decided (mark_at before.marks rank) ≡ true
      → is_decided (mark_at after.marks rank) ≡ true

-- the ranks of a run are kept, unless they are removed, and no other rank is removed
pub record KeepsRun (count : ℕ) (before after : BookView) : Type 0 where
  pub goes_on : GoesOn 1 before after
  pub run : (rank : ℕ) → rank < front_of before.marks + count
      → is_decided (mark_at after.marks rank) ≡ true
  pub rest : List ℕ
  pub kept : kept_of after.marks ≡ with_run before count ++ rest
  pub removed : (rank : ℕ) → mark_at after.marks rank ≡ Removed → mark_at before.marks rank ≡ Removed
  pub as_many : removed_of after.marks ≡ removed_of before.marks

-- one rank more is removed
pub record RemovesRank (rank : ℕ) (before after : BookView) : Type 0 where
  pub goes_on : GoesOn 1 before after
  pub removed : is_decided (mark_at after.marks rank) ≡ true
  pub one_more : removed_of after.marks ≡ removed_of before.marks + 1

-- the front moves on. One rank more is removed, or all are decided. At most so many entries are
-- made, and one for a rank that is removed.
pub record IsRound (most : ℕ) (before after : BookView) : Type 0 where
  pub more : ℕ
  pub goes_on : GoesOn (most + more) before after
  pub removed : removed_of after.marks ≡ removed_of before.marks + more
  pub one : more ≤ 1
  pub all : more ≡ 0 → front_of after.marks ≡ ranks_of before.case
  pub moved : front_of before.marks < front_of after.marks

-- nothing is done if all are decided; else there is a round of at most so many tests
pub record IsTurn (most tests : ℕ) (before after : BookView) : Type 0 where
  pub over : front_of before.marks ≡ ranks_of before.case → (after ≡ before) × (tests ≡ 0)
  pub round : front_of before.marks < ranks_of before.case → IsRound 2 before after × (tests ≤ most)

-- some rounds: the front has come at least so far
pub record IsUnderWay (rounds levels made : ℕ) (begun book : BookView) : Type 0 where
  -- 1 once a round has decided all ranks without removing one
  pub ended : ℕ
  pub one : ended ≤ 1
  pub all : ended ≡ 1 → front_of book.marks ≡ ranks_of begun.case
  pub removed : ℕ
  pub count : removed_of book.marks ≡ removed_of begun.marks + removed
  pub goes_on : GoesOn (3 * removed + 2 * ended) begun book
  pub tests : made ≤ (removed + ended) * (levels + 1)
  pub moved : rounds ≤ front_of book.marks
