use Rattle.std.proofs.Common.{map, take, All}
use Rattle.std.specs.List.Sorted.{IsStrictlyIncreasing}
use Rattle.closed_model.specs.Inside.Ordered.{AreTheSame}
use Rattle.closed_model.proofs.lists.number_lists.Given as goal

abbrev pub invariant-loop-list : goal.invariant-loop-list
invariant-loop-list l = record {
  same : AreTheSame l.ordered.items (map (λ list. list.items) (take l.list-index l.list-items));
  ascending : All IsStrictlyIncreasing l.ordered.items;
}
