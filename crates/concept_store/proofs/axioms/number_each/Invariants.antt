use Rattle.std.proofs.Common.{◌≡◌, ◌≤◌, ◌++◌, length, drop}
use Rattle.concept_store.specs.Inside.Numbering.{numbered_each}
use Rattle.concept_store.proofs.axioms.number_each.Given as goal

abbrev pub invariant-loop-expr : goal.invariant-loop-expr
invariant-loop-expr l = record {
  numbers : (numbered_each l.exprs l.initial.nodes.keys).0 ≡ l.numbers.items ++ (numbered_each (drop l.expr-index l.exprs) l.nodes.keys).0;
  nodes : (numbered_each l.exprs l.initial.nodes.keys).1 ≡ (numbered_each (drop l.expr-index l.exprs) l.nodes.keys).1;
  room : length l.initial.nodes.keys ≤ l.most → length l.nodes.keys ≤ l.most;
}
