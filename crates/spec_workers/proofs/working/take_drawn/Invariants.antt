use Rattle.std.proofs.Common.{◌<◌, ◌≤◌, All}
use Rattle.commit_lock.specs.Passes.{ranks_of, IsPassOf, KeepsPass, drawn}
use Rattle.commit_lock.specs.Seats.{IsSeatOf, IsIdle, KeepsPlace, number, seen}
use Rattle.spec_workers.specs.Inside.Stages.{HasTaken}
use Rattle.spec_workers.proofs.working.take_drawn.Given as goal

-- the seat and the pass are in their places, every rank that was drawn is taken, and no more tests are made than there are ranks
abbrev pub invariant-loop : goal.invariant-loop
invariant-loop g l = record {
  lock : IsSeatOf l.lock l.seat;
  idle : IsIdle l.seat;
  same : KeepsPlace l.initial.seat l.seat;
  word : IsPassOf l.draw l.pass;
  pass : KeepsPass l.initial.pass l.pass;
  not_over : All (λ x. x < ranks_of l.draw) (drawn l.pass);
  few : l.made ≤ ranks_of l.draw;
  taken : HasTaken (number l.initial.seat) l.budget (drawn l.initial.pass) (drawn l.pass) (seen l.initial.seat) (seen l.seat) l.made;
}
