-- A request and the verdict on what it gave are one turn.
use Rattle.std.proofs.Common.{◌≡◌, ℕ, Bool, true, List, [], ◌∷◌, refl, subst}
use Rattle.accuse_core.specs.declared.event.Event.TheVariants.{Take, TakeFront}
use Rattle.accuse_core.specs.declared.event.Reply.TheVariants.{Seen, Front}
use Rattle.accuse_core.specs.declared.journal.Entry.{Entry}
use Rattle.spec_workers.specs.Books.{Tells}
use Rattle.spec_workers.specs.Turns.{entry, IsVerdictOn}
use Rattle.spec_workers.specs.Inside.Steps.{IsTurn, IsFrontTurn, IsCut}
use Rattle.spec_workers.proofs.Holds.{tells_then}

-- a verdict on a rank, told by the seat with this number
abbrev pub TellsVerdict : ℕ → ℕ → ℕ → List Entry → List Entry → Type 0
TellsVerdict number rank seen before after =
    (told : Entry) × IsVerdictOn number rank seen told × Tells number before after (told ∷ [])

-- a rank is taken, and the verdict on it told
pub take_tested : (number later rank given seen : ℕ) (before asked after : List Entry) → later ≡ number → given ≡ rank
    → Tells number before asked (entry (Take number rank) (Seen seen) ∷ [])
    → TellsVerdict later given seen asked after
    → IsTurn number rank before after true
take_tested number later rank given seen before asked after same is took told =
    let here = subst (λ (n : ℕ). TellsVerdict n rank seen asked after) same
    (subst (λ (r : ℕ). TellsVerdict later r seen asked after) is told) in
    let request = entry (Take number rank) (Seen seen) in record {
      told = request ∷ here.0 ∷ [];
      tells = tells_then number before asked after (request ∷ []) (here.0 ∷ []) took here.2;
      step = (seen, (here.0, here.1, refl));
    }

-- the rank at the front is taken, and the verdict on it told
pub front_tested : (number later rank seen : ℕ) (before asked after : List Entry) → later ≡ number
    → Tells number before asked (entry (TakeFront number) (Front rank seen) ∷ [])
    → TellsVerdict later rank seen asked after
    → IsFrontTurn number before after true
front_tested number later rank seen before asked after same took told =
    let here = subst (λ (n : ℕ). TellsVerdict n rank seen asked after) same told in
    let request = entry (TakeFront number) (Front rank seen) in record {
      told = request ∷ here.0 ∷ [];
      tells = tells_then number before asked after (request ∷ []) (here.0 ∷ []) took here.2;
      step = (rank, seen, (here.0, here.1, refl));
    }

-- a turn after entries of others, by the seat of this number
pub turn_after : (number later rank : ℕ) (before between after : List Entry) (tested : Bool) → later ≡ number
    → Tells number before between [] → IsTurn later rank between after tested
    → IsTurn number rank before after tested
turn_after number later rank before between after tested same none turn =
    let here = subst (λ (n : ℕ). IsTurn n rank between after tested) same turn in record {
      told = here.told;
      tells = tells_then number before between after [] here.told none here.tells;
      step = here.step;
    }

-- the same of one that was cut off
pub cut_after : (number later : ℕ) (draws : List ℕ) (before between after : List Entry) → later ≡ number
    → Tells number before between [] → IsCut later draws between after → IsCut number draws before after
cut_after number later draws before between after same none cut =
    let here = subst (λ (n : ℕ). IsCut n draws between after) same cut in record {
      told = here.told;
      tells = tells_then number before between after [] here.told none here.tells;
      cut = here.cut;
    }
