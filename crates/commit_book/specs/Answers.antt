-- What a worker is given to test.
use Rattle.std.specs.Prelude.{◌≡◌, ℕ, take, ⊤}
use Rattle.commit_book.specs.declared.answers.Taken.{Taken}
use Rattle.commit_book.specs.declared.answers.TakeAnswer.{TakeAnswer}
use Rattle.commit_book.specs.declared.answers.TakeAnswer.TheVariants as T
use Rattle.commit_book.specs.declared.answers.FrontAnswer.{FrontAnswer}
use Rattle.commit_book.specs.declared.answers.FrontAnswer.TheVariants as F
use Rattle.accuse_core.specs.declared.event.Reply.{Reply}
use Rattle.accuse_core.specs.declared.event.Reply.TheVariants.{Over, Seen, Done, Front}
use Rattle.accuse_core.specs.Marks.{kept_of}
use Rattle.commit_book.specs.Books.{BookView, IsTableFor}

-- the core's reply that an answer tells
abbrev pub take_reply : TakeAnswer → Reply
take_reply T.Over = Over
take_reply (T.Seen taken) = Seen taken.seen

abbrev pub front_reply : FrontAnswer → Reply
front_reply F.Done = Done
front_reply (F.Front taken) = Front taken.rank taken.seen

-- the snapshot is of the book's case, for the kept ranks that it says it has seen
abbrev pub IsSnapshotOf : BookView → Taken → Type 0
IsSnapshotOf book taken = IsTableFor book.case (take taken.seen (kept_of book.marks)) taken.snapshot

-- what is given for a rank is of this rank, with such a snapshot
abbrev pub GivesRank : BookView → ℕ → TakeAnswer → Type 0
GivesRank book rank T.Over = ⊤
GivesRank book rank (T.Seen taken) = (taken.rank ≡ rank) × IsSnapshotOf book taken

abbrev pub GivesFront : BookView → FrontAnswer → Type 0
GivesFront book F.Done = ⊤
GivesFront book (F.Front taken) = IsSnapshotOf book taken
