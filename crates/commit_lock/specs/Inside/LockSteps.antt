-- What each atomic step of a lock makes of the seat that takes it, and what it tells.
use Rattle.std.specs.Prelude.{◌≡◌, ◌≢◌, ◌==◌, ◌%◌, ◌/◌, ◌+◌, ◌-◌, ◌^◌, ◌<◌, ◌≤◌, ℕ, List, [], ◌∷◌, Option, Some, None, MatchBool}
use Rattle.atomic_table.specs.Table.{Me, Step}
use Rattle.commit_lock.specs.declared.lock.SeatView.{SeatView}
use Rattle.commit_lock.specs.Entries.{IsBeginning, GrowsBy, made_by}
use Rattle.commit_lock.specs.Inside.LockRule.{most}

module _ {C E : Type 0} where
  -- the seat that was split: it may split off one seat less
  abbrev pub one_less : SeatView C E → SeatView C E
  one_less view = record view { room = view.room - 1 }

  -- the seat that was split off: it has room for its own number, which it has yet to draw
  abbrev pub unnumbered : SeatView C E → SeatView C E
  unnumbered view = record view {
    live = 0;
    turn = 0;
    entered = [];
    room = 1;
    stands_for = 0;
    before = view.seen;
    beside = view.seen;
  }

  -- the same seat with its number, for which it gives the room up
  abbrev pub numbered : ℕ → SeatView C E → SeatView C E
  numbered number view = record view {
    number = number;
    live = 1;
    room = 0;
    stands_for = 1;
    before = view.seen;
    beside = view.seen;
    partner = number + 1;
  }

  -- the seat that stays at a join, and what it notes of the other
  abbrev pub joined : (List E → List E → List E) → SeatView C E → SeatView C E → SeatView C E
  joined merge view other = record view {
    seen = merge view.seen other.seen;
    room = view.room + other.room;
    stands_for = view.stands_for + other.stands_for;
    before = view.seen;
    beside = other.seen;
    partner = other.number;
  }

  -- the seat that was joined into another
  abbrev pub spent_seat : SeatView C E
  spent_seat = record {
    case = None;
    number = 0;
    live = 0;
    turn = 0;
    seen = [];
    entered = [];
    room = 0;
    stands_for = 0;
    before = [];
    beside = [];
    partner = 0;
  }

  -- the notes of a join are cleared once they have been told
  abbrev pub settled : SeatView C E → SeatView C E
  settled view = record view { before = view.seen; beside = view.seen; partner = view.number + 1 }

  -- a seat that does not hold the turn, and has no slot
  abbrev pub Rests : {S : Type 0} → Me S (SeatView C E) → Type 0
  Rests me = (me.0.live ≡ 1) × (me.0.turn ≡ 0) × (me.1 ≡ [])

  -- the seat with the turn, and with the entries that it entered with
  abbrev pub with_turn : List E → SeatView C E → SeatView C E
  with_turn entries view = record view { turn = 1; entered = entries }

  -- the seat after it gave the turn back, which has seen these entries
  abbrev pub without_turn : List E → SeatView C E → SeatView C E
  without_turn entries view = record view {
    turn = 0;
    seen = entries;
    entered = [];
    before = entries;
    beside = entries;
  }

module _ {V C E : Type 0} (case_of : V → C) (entries_of : V → List E) (worker : E → ℕ) where
  -- the value has the seat's case, it begins with all that the seat had seen, and that has each of
  -- the seat's own entries
  abbrev pub IsFoundBy : SeatView C E → V → Type 0
  IsFoundBy view value =
      ((c : C) → view.case ≡ Some c → case_of value ≡ c)
      × IsBeginning view.seen (entries_of value)
      × (made_by worker view.number (entries_of value) ≡ made_by worker view.number view.seen)

  -- the turn was free, and the seat has it now, with the slot and the value in it
  abbrev pub IsTaken : Me (Option V) (SeatView C E) → Me (Option V) (SeatView C E) → Type 0
  IsTaken me after =
      (value : V) × IsFoundBy me.0 value
      × (after ≡ (with_turn (entries_of value) me.0, (0, Some value) ∷ []))

  -- an even word was free; at an odd one nothing changes
  abbrev pub TakesTurn : Step (Option V) → Me (Option V) (SeatView C E) → ℕ
      → Me (Option V) (SeatView C E) → Type 0
  TakesTurn step me found after = MatchBool (found % 2 == 0) (IsTaken me after) (after ≡ me)

  -- the value has the seat's case, and what it entered with has grown by its own entries
  abbrev pub MayLeave : SeatView C E → V → Type 0
  MayLeave view value =
      (view.case ≡ Some (case_of value))
      × GrowsBy worker view.number view.entered (entries_of value)

module _ {V C E : Type 0} (entries_of : V → List E) where
  -- the seat has seen the entries of the value that it left in the slot
  abbrev pub GivesTurn : Step (Option V) → Me (Option V) (SeatView C E) → ℕ
      → Me (Option V) (SeatView C E) → Type 0
  GivesTurn step me found after =
      (value : V) → me.1 ≡ (0, Some value) ∷ [] → after ≡ (without_turn (entries_of value) me.0, [])

module _ {C E : Type 0} (worker : E → ℕ) where
  -- the number drawn is half the word; it is new, and no entry that was seen carries it
  abbrev pub DrawsNumber : {S : Type 0} → Step S → Me S (SeatView C E) → ℕ
      → Me S (SeatView C E) → Type 0
  DrawsNumber step me found after =
      (found / 2 < 2 ^ 32) × (me.0.number ≢ found / 2)
      × (made_by worker (found / 2) me.0.seen ≡ [])
      × (after ≡ (numbered (found / 2) me.0, me.1))

  -- what a seat is told after a join
  abbrev pub SettlesJoin : {S : Type 0} → Step S → Me S (SeatView C E) → ℕ
      → Me S (SeatView C E) → Type 0
  SettlesJoin step me found after =
      IsBeginning me.0.before me.0.seen × IsBeginning me.0.beside me.0.seen
      × (made_by worker me.0.number me.0.seen ≡ made_by worker me.0.number me.0.before)
      × (made_by worker me.0.partner me.0.seen ≡ made_by worker me.0.partner me.0.beside)
      × (me.0.partner ≢ me.0.number) × (me.0.room + me.0.stands_for ≤ most)
      × (after ≡ (settled me.0, me.1))
