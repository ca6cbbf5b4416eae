-- The rank at the front, and how the front moves.
use Rattle.std.specs.Prelude.{◌≡◌, ℕ, ◌<◌, Bool, true, false, List, ⊤}
use Rattle.case_file.specs.Cases.{CaseView}
use Rattle.accuse_core.specs.declared.journal.Entry.{Entry}
use Rattle.accuse_core.specs.Marks.{front_of, number_kept}
use Rattle.commit_book.specs.declared.answers.Taken.{Taken}
use Rattle.spec_workers.specs.Inside.Asked.{marks_after}

-- what was taken is the rank that is at the front after these entries, and has seen all kept ranks
abbrev pub IsOfFront : CaseView → List Entry → Taken → Type 0
IsOfFront case entries taken = (taken.rank ≡ front_of (marks_after case entries))
    × (taken.seen ≡ number_kept (marks_after case entries))

-- the front is after this rank
abbrev pub IsPast : CaseView → List Entry → ℕ → Type 0
IsPast case entries rank = rank < front_of (marks_after case entries)

-- if a test was made, the front has moved
abbrev pub MovesFront : CaseView → List Entry → List Entry → Bool → Type 0
MovesFront case before after false = ⊤
MovesFront case before after true = IsPast case after (front_of (marks_after case before))
