-- What one turn of a worker tells.
use Rattle.std.specs.Prelude.{◌≡◌, ℕ, Bool, true, false, List, [], ◌∷◌}
use Rattle.accuse_core.specs.declared.event.Event.TheVariants.{Take, TakeFront}
use Rattle.accuse_core.specs.declared.event.Reply.TheVariants.{Over, Seen, Done}
use Rattle.accuse_core.specs.declared.journal.Entry.{Entry}
use Rattle.spec_workers.specs.Books.{Tells}
use Rattle.spec_workers.specs.Turns.{entry, IsTested, IsFrontTaken, IsCutTurn}

-- a rank is taken and tested, or was decided already
abbrev pub IsTakeStep : ℕ → ℕ → Bool → List Entry → Type 0
IsTakeStep worker rank true told =
    (seen : ℕ) × IsTested worker rank seen (entry (Take worker rank) (Seen seen)) told
IsTakeStep worker rank false told = told ≡ entry (Take worker rank) Over ∷ []

-- the rank at the front is taken and tested, or there is none
abbrev pub IsFrontStep : ℕ → Bool → List Entry → Type 0
IsFrontStep worker true told = IsFrontTaken worker told
IsFrontStep worker false told = told ≡ entry (TakeFront worker) Done ∷ []

-- between what a seat had seen and what it has seen, it did so
pub record IsTurn (number rank : ℕ) (before after : List Entry) (tested : Bool) : Type 0 where
  pub told : List Entry
  pub tells : Tells number before after told
  pub step : IsTakeStep number rank tested told

pub record IsFrontTurn (number : ℕ) (before after : List Entry) (tested : Bool) : Type 0 where
  pub told : List Entry
  pub tells : Tells number before after told
  pub step : IsFrontStep number tested told

-- or began to
pub record IsCut (number : ℕ) (draws : List ℕ) (before after : List Entry) : Type 0 where
  pub told : List Entry
  pub tells : Tells number before after told
  pub cut : IsCutTurn number draws told
