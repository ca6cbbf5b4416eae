use Rattle.std.proofs.Common.{◌≡◌, ◌++◌, drop}
use Rattle.std.specs.List.{flat_map}
use Rattle.case_tables.specs.Keyed.{numbered_from}
use Rattle.case_tables.specs.Tables.{held_in}
use Rattle.case_tables.proofs.collect.held_in.Given as goal

abbrev pub invariant-loop-number : goal.invariant-loop-number
invariant-loop-number g l =
    l.entries.items ++ flat_map (λ node. g.T.HeldEntry.held node.0 node.1) (numbered_from (λ n. n) l.number (drop l.number l.store.nodes)) ≡ held_in g.T.HeldEntry.held l.case
