-- What is appended to a book that is finished, and how many tests that takes.
use Rattle.std.specs.Prelude.{◌≡◌, ℕ, ◌+◌, ◌*◌, ◌-◌, ◌^◌, ◌≤◌, List, ◌++◌, All, length, count_by}
use Rattle.accuse_core.specs.declared.mark.Mark.{Mark}
use Rattle.accuse_core.specs.declared.event.Event.{Event}
use Rattle.accuse_core.specs.declared.event.Event.TheVariants.{Take, TakeFront, No, Yes, Block}
use Rattle.accuse_core.specs.declared.journal.Entry.{Entry}
use Rattle.accuse_core.specs.Marks.{is_removed}
use Rattle.commit_book.specs.Books.{BookView, ranks_of}

-- an event of worker 0 that asks for the front, keeps a block or removes a rank
abbrev pub IsFinishing : Event → Type 0
IsFinishing (Take worker rank) = ⊥
IsFinishing (TakeFront worker) = worker ≡ 0
IsFinishing (No worker rank seen) = worker ≡ 0
IsFinishing (Yes worker rank seen) = ⊥
IsFinishing (Block worker rank count seen) = worker ≡ 0

-- the entries before, followed by such events
abbrev pub IsFinishedBy : List Entry → List Entry → Type 0
IsFinishedBy before after =
    (more : List Entry) × (after ≡ before ++ more) × All (λ entry. IsFinishing entry.event) more

-- how many ranks are removed
abbrev pub removed_of : List Mark → ℕ
removed_of marks = count_by is_removed marks

-- how many were removed in between
abbrev pub removed_since : BookView → BookView → ℕ
removed_since before after = removed_of after.marks - removed_of before.marks

-- three entries at most for each rank that was removed, and three for the rest
pub record AreFewEntries (before after : BookView) : Type 0 where
  pub grown : removed_of before.marks ≤ removed_of after.marks
  pub few : length after.entries
      ≤ length before.entries + 3 * (removed_since before after + 1)

-- for each rank that was removed, and once more, as many tests as halve the ranks down to one, and
-- one test
abbrev pub AreFewTests : ℕ → BookView → BookView → Type 0
AreFewTests tests before after = (levels : ℕ) → ranks_of before.case ≤ 2 ^ levels
    → tests ≤ (removed_since before after + 1) * (levels + 1)
