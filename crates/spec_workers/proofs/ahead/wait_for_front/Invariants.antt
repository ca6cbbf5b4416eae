use Rattle.std.proofs.Common.{◌≤◌, []}
use Rattle.commit_lock.specs.Seats.{IsSeatOf, IsIdle, KeepsPlace, number, seen}
use Rattle.spec_workers.specs.Books.{Tells}
use Rattle.spec_workers.proofs.ahead.wait_for_front.Given as goal

-- the seat is in its place, and has told nothing
abbrev pub invariant-loop : goal.invariant-loop
invariant-loop g l = record {
  lock : IsSeatOf l.lock l.seat;
  idle : IsIdle l.seat;
  same : KeepsPlace l.initial.seat l.seat;
  told : Tells (number l.initial.seat) (seen l.initial.seat) (seen l.seat) [];
  few : l.times ≤ 64;
}
