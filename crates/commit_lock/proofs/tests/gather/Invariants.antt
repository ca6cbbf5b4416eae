use Rattle.std.proofs.Common.{◌≡◌, ◌+◌, ◌-◌, ◌^◌, All, vec_len}
use Rattle.commit_lock.specs.Seats.{IsSeatOf, IsIdle, seat_room, seats_for}
use Rattle.commit_lock.proofs.tests.gather.Given as goal

-- the seats that are left make the first one whole
abbrev pub invariant-loop-seat : goal.invariant-loop-seat
invariant-loop-seat l =
    IsSeatOf l.lock l.first × IsIdle l.first × (seat_room l.first + seats_for l.first + vec_len l.seats ≡ 2 ^ 32 - 1)
    × All (λ seat. IsSeatOf l.lock seat × IsIdle seat × (seat_room seat ≡ 0) × (seats_for seat ≡ 1)) l.seats.items

abbrev pub decreases-loop-seat : goal.decreases-loop-seat
decreases-loop-seat l = goal.left-loop-seat l
