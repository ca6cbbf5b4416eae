use Rattle.commit_lock.specs.Seats.{IsSeatOf, IsIdle, KeepsPlace}
use Rattle.commit_lock.proofs.tests.write_all.Given as goal

-- the seat is back after each turn
abbrev pub invariant-loop-turn : goal.invariant-loop-turn
invariant-loop-turn g l = IsSeatOf l.lock l.seat × IsIdle l.seat × KeepsPlace l.initial.seat l.seat
