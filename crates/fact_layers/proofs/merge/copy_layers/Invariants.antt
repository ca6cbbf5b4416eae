use Rattle.std.proofs.Common.{◌≡◌, ◌+◌, ◌++◌, take, length}
use Rattle.fact_layers.specs.Inside.Stacks.{all_items}
use Rattle.fact_layers.proofs.merge.copy_layers.Given as goal

abbrev pub invariant-loop-layer : goal.invariant-loop-layer
invariant-loop-layer l = record {
  list : l.table.list ≡ l.initial.table.list ++ all_items (take l.layer-index l.layer-items);
  spare : l.initial.table.spare ≡ l.table.spare + length (all_items (take l.layer-index l.layer-items));
}
