use Rattle.std.proofs.Common.{◌≤◌}
use Rattle.commit_lock.specs.Seats.{IsSeatOf, IsIdle, KeepsPlace, number, seen}
use Rattle.accuse_core.specs.Marks.{front_of}
use Rattle.spec_workers.specs.Books.{lock_case}
use Rattle.spec_workers.specs.Inside.Asked.{marks_after}
use Rattle.spec_workers.specs.Inside.Stages.{HasFronts}
use Rattle.spec_workers.proofs.working.take_fronts.Given as goal

-- the seat is in its place, and the rank at the front was taken once in each turn; each moved the front
abbrev pub invariant-loop : goal.invariant-loop
invariant-loop g l = record {
  lock : IsSeatOf l.lock l.seat;
  idle : IsIdle l.seat;
  same : KeepsPlace l.initial.seat l.seat;
  few : l.counter ≤ front_of (marks_after (lock_case l.lock) (seen l.seat));
  fronts : HasFronts (number l.initial.seat) l.counter (seen l.initial.seat) (seen l.seat);
}
