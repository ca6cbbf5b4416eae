use Rattle.std.proofs.Common.{◌<◌, ◌≤◌, length, take}
use Rattle.fact_layers.specs.Inside.Stacks.{all_items}
use Rattle.fact_layers.proofs.through.at_through.Given as goal

abbrev pub invariant-loop-left : goal.invariant-loop-left
invariant-loop-left l = record { within : l.left ≤ length l.layers; low : l.place < length (all_items (take l.left l.layers)) }

abbrev pub decreases-loop-left : goal.decreases-loop-left
decreases-loop-left l = l.left
