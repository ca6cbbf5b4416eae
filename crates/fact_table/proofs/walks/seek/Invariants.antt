use Rattle.std.proofs.Common.{◌-◌, ◌≤◌, length}
use Rattle.fact_table.specs.declared.types.Fact.{Fact}
use Rattle.fact_table.specs.Inside.Buckets.{bucket_of}
use Rattle.fact_table.specs.Inside.Chains.{IsWalked}
use Rattle.fact_table.specs.Inside.Cells.{cell_facts}
use Rattle.fact_table.proofs.walks.seek.Given as goal

abbrev pub invariant-loop-past : goal.invariant-loop-past
invariant-loop-past l = record { walked : IsWalked (bucket_of (length l.heads - 1)) (λ (f : Fact). f) (cell_facts l.cells) l.fact (length l.cells) l.past; within : l.past ≤ length l.cells }

abbrev pub decreases-loop-past : goal.decreases-loop-past
decreases-loop-past l = l.past
