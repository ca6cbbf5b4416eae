-- The share of the workers in the entries of a journal.
use Rattle.std.specs.Prelude.{◌==◌, ◌⊎◌, ℕ, ◌<◌, ◌≤◌, List, filter, not, Contains}
use Rattle.accuse_core.specs.declared.event.Event.TheVariants.{Take}
use Rattle.accuse_core.specs.declared.event.Reply.TheVariants.{Over, Seen}
use Rattle.accuse_core.specs.declared.journal.Entry.{Entry}
use Rattle.commit_book.specs.Books.{worker_of}
use Rattle.spec_workers.specs.Turns.{entry, IsVerdictOn, verdicts_in}

-- the entries of all workers but worker 0, who decides alone what these leave open
abbrev pub others_of : List Entry → List Entry
others_of entries = filter (λ (entry : Entry). not (worker_of entry.event == 0)) entries

-- a worker takes the rank: it is decided already; or it is given kept ranks to test it over, and
-- tells its verdict on the rank over these
abbrev pub IsTakenBy : ℕ → ℕ → List Entry → Type 0
IsTakenBy worker rank entries = Contains entries (entry (Take worker rank) Over)
    ⊎ ((seen : ℕ) × (verdict : Entry) × Contains entries (entry (Take worker rank) (Seen seen))
    × IsVerdictOn worker rank seen verdict × Contains entries verdict)

-- a worker other than worker 0 takes the rank
abbrev pub IsTakenByAnother : List Entry → ℕ → Type 0
IsTakenByAnother entries rank = (worker : ℕ) × IsTakenBy worker rank (others_of entries)

-- the other workers tell a verdict for each of n ranks at least, or they take every one of them
abbrev pub IsShared : ℕ → List Entry → Type 0
IsShared n entries = (n ≤ verdicts_in (others_of entries))
    ⊎ ((rank : ℕ) → rank < n → IsTakenByAnother entries rank)
