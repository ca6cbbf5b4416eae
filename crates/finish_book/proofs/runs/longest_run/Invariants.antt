use Rattle.std.proofs.Common.{◌+◌, ◌-◌, ◌^◌, ◌≤◌}
use Rattle.finish_book.specs.Inside.Runs.{IsRun}
use Rattle.finish_book.proofs.runs.longest_run.Given as goal

abbrev pub invariant-loop-made : goal.invariant-loop-made
invariant-loop-made g l = record {
  is_run : IsRun l.book l.run;
  small : l.run.further + 1 ≤ 2 ^ (l.levels + 1 - l.made);
  counted : l.steps ≤ l.initial.steps + l.made;
  later : l.initial.steps ≤ l.steps;
}
