use Rattle.fact_table.specs.Groups.{node_at}
use Rattle.fact_table.specs.Lists.{facts_of}
use Rattle.fact_table.specs.Places.{IsClear}
use Rattle.fact_table.proofs.scan.next_past.Given as goal

abbrev pub invariant-loop-place : goal.invariant-loop-place
invariant-loop-place g l = IsClear (node_at l.side) (facts_of (g.F.FactsByPlace.facts l.facts)) l.node l.start l.place
