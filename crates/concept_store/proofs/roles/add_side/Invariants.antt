use Rattle.std.proofs.Common.{◌≡◌, ◌≤◌, ◌+◌, ◌++◌, length, drop}
use Rattle.concept_store.specs.Roles.{parts_in}
use Rattle.concept_store.proofs.roles.add_side.Given as goal

abbrev pub invariant-loop-k : goal.invariant-loop-k
invariant-loop-k l = record {
  roles : l.initial.roles.items ++ parts_in l.side 1 l.axioms ≡ l.roles.items ++ parts_in l.side (l.k + 1) (drop l.k l.axioms);
  room : length l.roles.items ≤ l.most;
}
