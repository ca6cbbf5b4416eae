use Rattle.std.proofs.Common.{◌-◌, ◌≤◌}
use Rattle.finish_book.specs.Inside.Rounds.{IsUnderWay}
use Rattle.finish_book.proofs.finishing.finish.Given as goal

abbrev pub invariant-loop : goal.invariant-loop
invariant-loop g l = record {
  steps : l.initial.steps ≤ l.steps;
  way : IsUnderWay l.counter l.levels (l.steps - l.initial.steps) l.initial.book l.book;
}
