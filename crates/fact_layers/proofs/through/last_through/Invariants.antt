use Rattle.std.proofs.Common.{◌≤◌, length, take}
use Rattle.fact_table.specs.Groups.{group_at}
use Rattle.fact_table.specs.Lists.{facts_of}
use Rattle.fact_table.specs.Places.{IsClear}
use Rattle.fact_layers.specs.Inside.Stacks.{all_items}
use Rattle.fact_layers.proofs.through.last_through.Given as goal

abbrev pub invariant-loop-left : goal.invariant-loop-left
invariant-loop-left l = record {
  within : l.left ≤ length l.layers;
  clear : IsClear (group_at l.side) (facts_of (all_items l.layers)) l.group (length (all_items (take l.left l.layers))) l.below;
}

abbrev pub decreases-loop-left : goal.decreases-loop-left
decreases-loop-left l = l.left
