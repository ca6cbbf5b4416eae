use Rattle.std.proofs.Common.{◌-◌, ◌≤◌, length}
use Rattle.fact_table.specs.Groups.{group_at}
use Rattle.fact_table.specs.Inside.Buckets.{head_of}
use Rattle.fact_table.specs.Inside.Chains.{IsWalked}
use Rattle.fact_table.specs.Inside.Cells.{cell_facts}
use Rattle.fact_table.proofs.walks.walk.Given as goal

abbrev pub invariant-loop-past : goal.invariant-loop-past
invariant-loop-past l = record { walked : IsWalked (head_of (length l.heads - 1)) (group_at l.side) (cell_facts l.cells) l.group l.below l.past; within : l.past ≤ length l.cells }

abbrev pub decreases-loop-past : goal.decreases-loop-past
decreases-loop-past l = l.past
