-- The entries that one worker makes.
use Rattle.std.specs.Prelude.{◌≡◌, ◌⊎◌, ℕ, zero, suc, ◌≤◌, ⊤, Bool, true, false, List, [], ◌∷◌, ◌++◌, count_by}
use Rattle.accuse_core.specs.declared.event.Event.{Event}
use Rattle.accuse_core.specs.declared.event.Event.TheVariants.{Take, TakeFront, No, Yes, Block}
use Rattle.accuse_core.specs.declared.event.Reply.{Reply}
use Rattle.accuse_core.specs.declared.event.Reply.TheVariants.{Over, Seen, Done as AllDone, Front}
use Rattle.accuse_core.specs.declared.journal.Entry.{Entry}
use Rattle.spec_workers.specs.declared.types.WorkEnd.{WorkEnd}
use Rattle.spec_workers.specs.declared.types.WorkEnd.TheVariants.{Done, Budget, OutOfMemory}

abbrev pub entry : Event → Reply → Entry
entry event reply = record { event = event; reply = reply }

-- a no or a yes by this worker on this rank, over this number of kept ranks
abbrev pub IsVerdictOn : ℕ → ℕ → ℕ → Entry → Type 0
IsVerdictOn worker rank seen verdict =
    (verdict.event ≡ No worker rank seen) ⊎ (verdict.event ≡ Yes worker rank seen)

-- the entries are an answered request, and the verdict on what it gave to test
abbrev pub IsTested : ℕ → ℕ → ℕ → Entry → List Entry → Type 0
IsTested worker rank seen asked entries =
    (verdict : Entry) × IsVerdictOn worker rank seen verdict × (entries ≡ asked ∷ verdict ∷ [])

-- a worker takes a rank: it is decided already, or a verdict follows
abbrev pub IsTake : ℕ → ℕ → List Entry → Type 0
IsTake worker rank entries = (entries ≡ entry (Take worker rank) Over ∷ [])
    ⊎ ((seen : ℕ) × IsTested worker rank seen (entry (Take worker rank) (Seen seen)) entries)

-- for each of these ranks, in order, a worker takes it
abbrev pub AreTaken : ℕ → List ℕ → List Entry → Type 0
AreTaken worker [] entries = entries ≡ []
AreTaken worker (rank ∷ ranks) entries = (first rest : List Entry) × (entries ≡ first ++ rest)
    × IsTake worker rank first × AreTaken worker ranks rest

-- a worker takes the rank at the front, and a verdict follows
abbrev pub IsFrontTaken : ℕ → List Entry → Type 0
IsFrontTaken worker entries = (rank seen : ℕ)
    × IsTested worker rank seen (entry (TakeFront worker) (Front rank seen)) entries

-- a worker does so this number of times
abbrev pub AreFrontsTaken : ℕ → ℕ → List Entry → Type 0
AreFrontsTaken worker zero entries = entries ≡ []
AreFrontsTaken worker (suc count) entries = (first rest : List Entry)
    × (entries ≡ first ++ rest) × IsFrontTaken worker first × AreFrontsTaken worker count rest

-- of n ranks a worker drew and took some, then drew a number that is none of the ranks, and took the
-- rank at the front some times
pub record IsAtFront (n worker : ℕ) (draws : List ℕ) (entries : List Entry) : Type 0 where
  pub ranks : List ℕ
  pub past : ℕ
  pub drawn : draws ≡ ranks ++ past ∷ []
  pub none : n ≤ past
  pub takes : List Entry
  pub count : ℕ
  pub fronts : List Entry
  pub told : entries ≡ takes ++ fronts
  pub taken : AreTaken worker ranks takes
  pub fronts_taken : AreFrontsTaken worker count fronts

-- ranks drawn and taken, or these and then the front; with every verdict told
abbrev pub IsWholeWork : ℕ → ℕ → List ℕ → List Entry → Type 0
IsWholeWork n worker draws told = AreTaken worker draws told ⊎ IsAtFront n worker draws told

-- what a worker may have begun when memory runs out: nothing, a rank drawn that it has not taken, a
-- rank taken without its verdict, or the rank at the front without its verdict
abbrev pub IsCutTurn : ℕ → List ℕ → List Entry → Type 0
IsCutTurn worker [] [] = ⊤
IsCutTurn worker [] (asked ∷ []) =
    (rank seen : ℕ) × (asked ≡ entry (TakeFront worker) (Front rank seen))
IsCutTurn worker (rank ∷ []) [] = ⊤
IsCutTurn worker (rank ∷ []) (asked ∷ []) =
    (seen : ℕ) × (asked ≡ entry (Take worker rank) (Seen seen))
IsCutTurn worker _ _ = ⊥

-- whole work, and then something that was begun
pub record IsCutWork (n worker : ℕ) (draws : List ℕ) (entries : List Entry) : Type 0 where
  pub before : List ℕ
  pub last : List ℕ
  pub drawn : draws ≡ before ++ last
  pub whole : List Entry
  pub begun : List Entry
  pub told : entries ≡ whole ++ begun
  pub is_whole : IsWholeWork n worker before whole
  pub is_begun : IsCutTurn worker last begun

abbrev pub is_verdict : Event → Bool
is_verdict (Take worker rank) = false
is_verdict (TakeFront worker) = false
is_verdict (No worker rank seen) = true
is_verdict (Yes worker rank seen) = true
is_verdict (Block worker rank count seen) = false

-- how many of the entries are verdicts
abbrev pub verdicts_in : List Entry → ℕ
verdicts_in entries = count_by (λ (entry : Entry). is_verdict entry.event) entries

-- how a worker ended: every rank is decided, and the last that it was told is this; or all verdicts
-- that it was allowed are told; or memory ran out
abbrev pub IsEnd : ℕ → ℕ → ℕ → List ℕ → List Entry → WorkEnd → Type 0
IsEnd n worker budget draws told Done = (before : List Entry)
    × (told ≡ before ++ entry (TakeFront worker) AllDone ∷ []) × IsAtFront n worker draws before
IsEnd n worker budget draws told Budget =
    IsWholeWork n worker draws told × (verdicts_in told ≡ budget)
IsEnd n worker budget draws told OutOfMemory = IsCutWork n worker draws told

-- of n ranks a worker drew these numbers, and told these entries
pub record IsWork (n worker budget : ℕ) (draws : List ℕ) (told : List Entry) (end : WorkEnd)
    : Type 0 where
  pub within : verdicts_in told ≤ budget
  pub ends : IsEnd n worker budget draws told end
