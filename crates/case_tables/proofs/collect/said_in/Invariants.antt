use Rattle.std.proofs.Common.{◌≡◌, ◌++◌}
use Rattle.std.specs.List.{flat_map}
use Rattle.fact_table.specs.declared.types.Source.{Source}
use Rattle.case_tables.specs.Keyed.{numbered_from}
use Rattle.case_tables.specs.Tables.{rows_below}
use Rattle.case_tables.proofs.collect.said_in.Given as goal

abbrev pub invariant-loop-rank : goal.invariant-loop-rank
invariant-loop-rank g l =
    l.entries.items ≡ flat_map (λ named. g.T.SaidEntry.said named.0 named.1) (numbered_from Source.Left 1 l.case.store.left ++ numbered_from Source.Right 1 l.case.store.right ++ rows_below l.case.over l.rank)
