use Rattle.std.proofs.Common.{◌≡◌, ◌≤◌, length, count_by, take}
use Rattle.std.specs.Prelude.{◌==◌}
use Rattle.case_load.proofs.rows.inert_count.Given as goal

abbrev pub invariant-loop-axioms : goal.invariant-loop-axioms
invariant-loop-axioms l = record {
  counted : l.inert ≡ count_by (λ axioms. length axioms == 0) (take l.axioms-index l.lists);
  few : l.inert ≤ l.axioms-index;
}
