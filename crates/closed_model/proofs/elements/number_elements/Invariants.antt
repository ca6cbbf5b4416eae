use Rattle.std.proofs.Common.{◌≡◌, ◌≤◌}
use Rattle.fact_table.specs.Lists.{facts_of}
use Rattle.closed_model.specs.Inside.Elements.{numbers_of, live_count}
use Rattle.closed_model.proofs.elements.number_elements.Given as goal

abbrev pub invariant-loop-node : goal.invariant-loop-node
invariant-loop-node l = record {
  numbers : l.of_node.items ≡ numbers_of (facts_of l.base) l.node;
  count : l.count ≡ live_count (facts_of l.base) l.node;
  small : l.count ≤ l.node;
}
