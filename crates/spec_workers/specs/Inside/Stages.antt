-- How far the work of one worker has come.
use Rattle.std.specs.Prelude.{◌≡◌, ℕ, ◌≤◌, List, [], ◌∷◌, ◌++◌}
use Rattle.accuse_core.specs.declared.event.Event.TheVariants.{TakeFront}
use Rattle.accuse_core.specs.declared.event.Reply.TheVariants.{Done as AllDone}
use Rattle.accuse_core.specs.declared.journal.Entry.{Entry}
use Rattle.spec_workers.specs.declared.types.WorkEnd.{WorkEnd}
use Rattle.spec_workers.specs.declared.types.WorkEnd.TheVariants.{Done, Budget, OutOfMemory}
use Rattle.spec_workers.specs.Books.{Tells}
use Rattle.spec_workers.specs.Turns.{entry, AreTaken, AreFrontsTaken, IsCutTurn, verdicts_in}

-- the worker drew these ranks and took each, with this number of tests
pub record IsTaking (worker budget : ℕ) (draws : List ℕ) (told : List Entry) (made : ℕ)
    : Type 0 where
  pub taken : AreTaken worker draws told
  pub tests : verdicts_in told ≡ made
  pub within : made ≤ budget

-- so it did since the pass had drawn these numbers and the seat had seen these entries
pub record HasTaken (worker budget : ℕ) (drawn_before drawn_after : List ℕ)
    (before after : List Entry) (made : ℕ) : Type 0 where
  pub draws : List ℕ
  pub told : List Entry
  pub drawn : drawn_after ≡ drawn_before ++ draws
  pub tells : Tells worker before after told
  pub taking : IsTaking worker budget draws told made

-- and then a number that is none of the n ranks
pub record IsDrawnOut (n worker budget : ℕ) (draws : List ℕ) (told : List Entry) (made : ℕ)
    : Type 0 where
  pub ranks : List ℕ
  pub past : ℕ
  pub drawn : draws ≡ ranks ++ past ∷ []
  pub none : n ≤ past
  pub taking : IsTaking worker budget ranks told made

-- the rank at the front was taken this number of times, and something was begun
pub record IsCutFront (worker most : ℕ) (entries : List Entry) : Type 0 where
  pub count : ℕ
  pub fronts : List Entry
  pub begun : List Entry
  pub told : entries ≡ fronts ++ begun
  pub taken : AreFrontsTaken worker count fronts
  pub few : count ≤ most
  pub is_begun : IsCutTurn worker [] begun

-- and then the worker was told that all is decided
pub record IsDoneFront (worker most : ℕ) (entries : List Entry) : Type 0 where
  pub count : ℕ
  pub fronts : List Entry
  pub told : entries ≡ fronts ++ entry (TakeFront worker) AllDone ∷ []
  pub taken : AreFrontsTaken worker count fronts
  pub few : count ≤ most

-- since the seat had seen these entries the rank at the front was taken this number of times
pub record HasFronts (worker count : ℕ) (before after : List Entry) : Type 0 where
  pub told : List Entry
  pub tells : Tells worker before after told
  pub taken : AreFrontsTaken worker count told

-- how a worker ended that took the rank at the front at most so many times
abbrev pub IsFrontWork : ℕ → ℕ → List Entry → WorkEnd → Type 0
IsFrontWork worker most told Done = IsDoneFront worker most told
IsFrontWork worker most told Budget = AreFrontsTaken worker most told
IsFrontWork worker most told OutOfMemory = IsCutFront worker most told
