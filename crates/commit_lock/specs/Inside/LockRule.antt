-- The rule of a lock: what holds of its turn word, its slot and its seats between any two steps.
use Rattle.std.specs.Prelude.{◌≡◌, ◌≢◌, ◌==◌, ◌+◌, ◌-◌, ◌*◌, ◌^◌, ◌<◌, ◌≤◌, ℕ, List, [], ◌∷◌, Option, Some, if◌then◌else◌}
use Rattle.std.specs.List.{sum_by}
use mathlib.Core.Option as maybe
use lib.ListN.{get_elem?}
use Rattle.atomic_table.specs.Table.{State}
use Rattle.commit_lock.specs.declared.lock.SeatView.{SeatView}
use Rattle.commit_lock.specs.Entries.{IsBeginning, made_by}

-- the most seats that a lock can make, and the most passes that a draw word can make
abbrev pub most : ℕ
most = 2 ^ 32 - 1

module _ {C E : Type 0} where
  abbrev pub turn : SeatView C E → ℕ
  turn view = view.turn

  abbrev pub stands_for : SeatView C E → ℕ
  stands_for view = view.stands_for

  abbrev pub room : SeatView C E → ℕ
  room view = view.room

  -- 1 for a live seat that has this number, else 0
  abbrev pub lives_as : ℕ → SeatView C E → ℕ
  lives_as number view = view.live * (if view.number == number then 1 else 0)

  -- the seat that a new lock has
  abbrev pub first_seat : C → SeatView C E
  first_seat case = record {
    case = Some case;
    number = 0;
    live = 1;
    turn = 0;
    seen = [];
    entered = [];
    room = 2 ^ 32 - 2;
    stands_for = 1;
    before = [];
    beside = [];
    partner = 1;
  }

  -- a live seat has seen every entry
  abbrev pub SomeHasSeen : List E → List (SeatView C E) → Type 0
  SomeHasSeen log views =
      (place : ℕ) × (view : SeatView C E) × (get_elem? views place ≡ maybe.some view)
      × (1 ≤ view.stands_for) × (view.seen ≡ log)

-- The numbers of seats. A room is a seat that may still be split off, or one that was split off and
-- has no number yet.
pub record Counts {C E : Type 0} (made : ℕ) (views : List (SeatView C E)) : Type 0 where
  -- two live seats have different numbers
  pub apart : (number : ℕ) → sum_by (lives_as number) views ≤ 1
  -- no live seat has a number that was not drawn
  pub drawn : (number : ℕ) → made ≤ number → sum_by (lives_as number) views ≡ 0
  -- the number of every view was drawn
  pub below : (place : ℕ) (view : SeatView C E) → get_elem? views place ≡ maybe.some view
      → view.number < made
  -- the live seats stand for all seats that were made
  pub standing : sum_by stands_for views ≡ made
  -- so no more than this number of seats is ever made, and the turn word never wraps
  pub rooms : made + sum_by room views ≡ most

module _ {V C E : Type 0} (case_of : V → C) (entries_of : V → List E) (worker : E → ℕ)
    (key : C) where
  -- the value is in the slot, and no seat has the slot
  abbrev pub IsAtHome : List E → List (maybe.Option (Option V)) → Type 0
  IsAtHome log homes =
      (value : V) × (homes ≡ maybe.some (Some value) ∷ [])
      × (case_of value ≡ key) × (entries_of value ≡ log)

  -- What one seat knows of all entries that were made.
  pub record Knows (log : List E) (view : SeatView C E) : Type 0 where
    -- the lock's case, unless it is spent
    pub case : (c : C) → view.case ≡ Some c → c ≡ key
    -- what it has seen is a beginning of them
    pub seen : IsBeginning view.seen log
    -- of the entries with a live seat's number it has seen every one
    pub own : view.live ≡ 1 → made_by worker view.number log ≡ made_by worker view.number view.seen
    -- only a live seat holds the turn, and it entered with all entries
    pub holder : view.turn ≤ view.live
    pub entered : view.turn ≡ 1 → view.entered ≡ log
    -- a live seat stands for itself at least
    pub standing : view.live ≤ view.stands_for
    -- at its last join both seats had seen beginnings of what it has seen now, and the entries of
    -- both stayed the same
    pub before : IsBeginning view.before view.seen
    pub beside : IsBeginning view.beside view.seen
    pub kept : made_by worker view.number view.seen ≡ made_by worker view.number view.before
    pub kept_beside :
        made_by worker view.partner view.seen ≡ made_by worker view.partner view.beside
    -- and they had different numbers
    pub partner : view.live ≡ 1 → view.partner ≢ view.number

  pub record LockRule (state : State (Option V) (SeatView C E)) : Type 0 where
    -- all entries that were made, in order; while a seat holds the turn, those that it entered with
    pub log : List E
    -- how many seats were made
    pub made : ℕ
    -- the turn word is twice that number, and one more while a seat holds the turn
    pub word : state.words ≡ (2 * made + sum_by turn state.views) ∷ []
    -- one seat at most holds it
    pub one_holder : sum_by turn state.views ≤ 1
    -- while the turn is free, the value is at home with all entries
    pub free : sum_by turn state.views ≡ 0 → IsAtHome log state.homes
    -- while a seat holds it, no value is at home
    pub held : sum_by turn state.views ≡ 1 → state.homes ≡ maybe.none ∷ []
    pub each : (place : ℕ) (view : SeatView C E) → get_elem? state.views place ≡ maybe.some view
        → Knows log view
    pub counts : Counts made state.views
    -- the number of every entry was drawn
    pub numbers : (number : ℕ) → made ≤ number → made_by worker number log ≡ []
    -- no entry is lost
    pub witness : SomeHasSeen log state.views
