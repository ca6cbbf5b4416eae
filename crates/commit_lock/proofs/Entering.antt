-- What a seat has once it took the turn, and then the value out of the slot.
use Rattle.std.proofs.Common.{◌≡◌, ◌%◌, ℕ, Bool, List, [], ◌∷◌, Option, Some, None, MatchBool, sym, ap, ◌∙◌, subst, eq-eqb}
use Rattle.atomic_table.specs.Table.{Me, Step, rest}
use Rattle.commit_lock.specs.declared.lock.SeatView.{SeatView}
use Rattle.commit_lock.specs.Entries.{IsBeginning, made_by}
use Rattle.commit_lock.specs.Inside.LockSteps.{with_turn, IsFoundBy, IsTaken, TakesTurn}

module _ {V C E : Type 0} (case_of : V → C) (entries_of : V → List E) (worker : E → ℕ) where
  abbrev Mine : Type 0
  Mine = Me (Option V) (SeatView C E)

  -- the word that was found is even, so the turn was taken
  taken : (step : Step (Option V)) (me after : Mine) (found : ℕ) → found % 2 ≡ 0
      → TakesTurn case_of entries_of worker step me found after
      → IsTaken case_of entries_of worker me after
  taken step me after found even told =
      subst (λ (b : Bool). MatchBool b (IsTaken case_of entries_of worker me after) (after ≡ me))
      (eq-eqb (found % 2) 0 even) told

  -- the value in the slot that a seat holds, or another
  slot_value : V → List (ℕ × Option V) → V
  slot_value other [] = other
  slot_value other ((place, Some value) ∷ more) = value
  slot_value other ((place, None) ∷ more) = other

  -- the seat found this value, and has the turn and the slot without it
  pub record HasEntered (start last : Mine) (value : V) : Type 0 where
    pub found : IsFoundBy case_of entries_of worker start.0 value
    pub view : last.0 ≡ with_turn (entries_of value) start.0
    pub slot : last.1 ≡ (0, None) ∷ []

  -- the turn was taken, and then the value out of the slot
  entered_from : (start after last : Mine) (out : Option V) (value : V)
      → IsTaken case_of entries_of worker start after
      → after.1 ≡ (0, out) ∷ rest after.1 → out ≡ Some value
      → last ≡ (after.0, (0, None) ∷ rest after.1) → HasEntered start last value
  unfolding slot_value
  entered_from start after last out value took slot is emptied =
      let slots : (0, Some value) ∷ rest after.1 ≡ (0, Some took.0) ∷ [] =
      ap (λ (o : Option V). (0, o) ∷ rest after.1) (sym is) ∙ (sym slot ∙ ap (λ (m : Mine). m.1) took.2) in
      let same : value ≡ took.0 = ap (slot_value value) slots in record {
        found = subst (IsFoundBy case_of entries_of worker start.0) (sym same) took.1;
        view =
            ap (λ (m : Mine). m.0) emptied
            ∙ (ap (λ (m : Mine). m.0) took.2 ∙ ap (λ (v : V). with_turn (entries_of v) start.0) (sym same));
        slot = ap (λ (m : Mine). m.1) emptied ∙ ap (λ (m : Mine). (0, None) ∷ rest m.1) took.2;
      }

  -- what a seat of the case `key`, that did not hold the turn before, knows of the value that it found
  pub record Entered (key : C) (start last : Mine) (value : V) : Type 0 where
    pub case : last.0.case ≡ Some key
    pub turn : (last.0.live ≡ 1) × (last.0.turn ≡ 1) × (last.1 ≡ (0, None) ∷ [])
    pub entered : last.0.entered ≡ entries_of value
    pub place :
        (last.0.number ≡ start.0.number) × (last.0.room ≡ start.0.room)
        × (last.0.stands_for ≡ start.0.stands_for)
    pub seen : last.0.seen ≡ start.0.seen
    pub found_case : case_of value ≡ key
    pub begins : IsBeginning start.0.seen (entries_of value)
    pub own : made_by worker start.0.number (entries_of value) ≡ made_by worker start.0.number start.0.seen

  -- the seat's case and its place stay
  entered_with : (key : C) (start last : Mine) (value : V) → start.0.case ≡ Some key → start.0.live ≡ 1
      → HasEntered start last value → Entered key start last value
  entered_with key start last value case live has = record {
    case = ap (λ (v : SeatView C E). v.case) has.view ∙ case;
    turn = (ap (λ (v : SeatView C E). v.live) has.view ∙ live, ap (λ (v : SeatView C E). v.turn) has.view, has.slot);
    entered = ap (λ (v : SeatView C E). v.entered) has.view;
    place = (
      ap (λ (v : SeatView C E). v.number) has.view,
      ap (λ (v : SeatView C E). v.room) has.view,
      ap (λ (v : SeatView C E). v.stands_for) has.view,
    );
    seen = ap (λ (v : SeatView C E). v.seen) has.view;
    found_case = has.found.0 key case;
    begins = has.found.1;
    own = has.found.2;
  }

  -- the same for a seat that waited, and did not change meanwhile
  pub entered_by : (step : Step (Option V)) (key : C) (start me after last : Mine) (found : ℕ) (out : Option V)
      (value : V) → start.0.case ≡ Some key → start.0.live ≡ 1 → me ≡ start
      → found % 2 ≡ 0 → TakesTurn case_of entries_of worker step me found after
      → after.1 ≡ (0, out) ∷ rest after.1 → out ≡ Some value
      → last ≡ (after.0, (0, None) ∷ rest after.1) → Entered key start last value
  entered_by step key start me after last found out value case live same even told slot is emptied =
      let took = taken step me after found even told in
      let took_first = subst (λ (m : Mine). IsTaken case_of entries_of worker m after) same took in
      entered_with key start last value case live (entered_from start after last out value took_first slot is emptied)

  -- the slot that the seat holds once it took the turn
  pub has_slot : (step : Step (Option V)) (me after : Mine) (found : ℕ) → found % 2 ≡ 0
      → TakesTurn case_of entries_of worker step me found after
      → (old : Option V) × (after.1 ≡ (0, old) ∷ rest after.1)
  has_slot step me after found even told =
      let took = taken step me after found even told in
      let none : [] ≡ rest after.1 = sym (ap (λ (m : Mine). rest m.1) took.2) in
      let slots = ap (λ (l : List (ℕ × Option V)). (0, Some took.0) ∷ l) none in
      (Some took.0, ap (λ (m : Mine). m.1) took.2 ∙ slots)
