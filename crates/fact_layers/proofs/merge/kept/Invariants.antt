use Rattle.std.proofs.Common.{◌≡◌, ◌+◌, ◌≤◌, drop, length}
use Rattle.fact_layers.specs.Inside.Stacks.{all_items}
use Rattle.fact_layers.proofs.merge.kept.Given as goal

abbrev pub invariant-loop-first : goal.invariant-loop-first
invariant-loop-first l = record { within : l.first ≤ length l.layers; size : l.size ≡ l.top + length (all_items (drop l.first l.layers)) }

abbrev pub decreases-loop-first : goal.decreases-loop-first
decreases-loop-first l = l.first
