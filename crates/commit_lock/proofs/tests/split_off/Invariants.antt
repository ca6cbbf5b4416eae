use Rattle.std.proofs.Common.{◌≡◌, ◌+◌, All, vec_len}
use Rattle.commit_lock.specs.Seats.{IsSeatOf, IsIdle, seat_room, seats_for}
use Rattle.commit_lock.proofs.tests.split_off.Given as goal

-- each seat that was split off took one room
abbrev pub invariant-loop : goal.invariant-loop
invariant-loop l =
    IsSeatOf l.lock l.first × IsIdle l.first × (seat_room l.first + l.counter ≡ seat_room l.initial.first) × (seats_for l.first ≡ seats_for l.initial.first)
    × (vec_len l.seats ≡ l.counter) × All (λ seat. IsSeatOf l.lock seat × IsIdle seat × (seat_room seat ≡ 0) × (seats_for seat ≡ 1)) l.seats.items
