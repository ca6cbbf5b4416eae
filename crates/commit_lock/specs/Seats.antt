-- What a clause says of a lock and of its seats.
use Rattle.std.specs.Prelude.{◌≡◌, ◌+◌, ◌-◌, ◌^◌, ◌∷◌, [], ℕ, List, Some, None}
use Rattle.commit_lock.specs.declared.lock.Grows.{Ghosts}
use Rattle.commit_lock.specs.declared.lock.CommitLock.{CommitLock}
use Rattle.commit_lock.specs.declared.lock.Seat.{Seat}

module _ {V C E : Type 0} where
  -- the case of the value under the lock
  abbrev pub case_of : (V → C) → CommitLock V C E → C
  case_of case lock = case lock.table.shared.key.value

module _ {V C E : Type 0} {g : Ghosts V C E} where
  -- the seat is one of this lock, and knows the case of its value
  abbrev pub IsSeatOf : CommitLock V C E → Seat V C E g → Type 0
  IsSeatOf lock seat =
      (seat.token.table_id ≡ lock.table.shared.table_id)
      × (seat.token.me.0.case ≡ Some (case_of g.case lock))

  -- the seat does not hold the turn, and has no slot
  abbrev pub IsIdle : Seat V C E g → Type 0
  IsIdle seat = (seat.token.me.0.live ≡ 1) × (seat.token.me.0.turn ≡ 0) × (seat.token.me.1 ≡ [])

  -- the seat holds the turn, and has the slot, with no value in it
  abbrev pub HasTurn : Seat V C E g → Type 0
  HasTurn seat =
      (seat.token.me.0.live ≡ 1) × (seat.token.me.0.turn ≡ 1)
      × (seat.token.me.1 ≡ (0, None) ∷ [])

  -- the number that its entries carry
  abbrev pub number : Seat V C E g → ℕ
  number seat = seat.token.me.0.number

  -- the entries that it has seen
  abbrev pub seen : Seat V C E g → List E
  seen seat = seat.token.me.0.seen

  -- while it holds the turn, the entries of the value that it got
  abbrev pub entered : Seat V C E g → List E
  entered seat = seat.token.me.0.entered

  -- how many seats may still be split from it
  abbrev pub seat_room : Seat V C E g → ℕ
  seat_room seat = seat.token.me.0.room

  -- how many seats it stands for: itself, and those that were joined into it
  abbrev pub seats_for : Seat V C E g → ℕ
  seats_for seat = seat.token.me.0.stands_for

  -- every seat that was split off was joined again
  abbrev pub IsWholeSeat : Seat V C E g → Type 0
  IsWholeSeat seat = seat_room seat + seats_for seat ≡ 2 ^ 32 - 1

  -- the number, the room and the seats that it stands for stay
  abbrev pub KeepsPlace : Seat V C E g → Seat V C E g → Type 0
  KeepsPlace before after =
      (number after ≡ number before) × (seat_room after ≡ seat_room before)
      × (seats_for after ≡ seats_for before)
