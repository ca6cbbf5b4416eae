use Rattle.std.proofs.Common.{◌≡◌, ◌++◌, drop}
use Rattle.case_tables.specs.Entries.{joins_along}
use Rattle.case_tables.proofs.said.put_joins.Given as goal

abbrev pub invariant-loop-index : goal.invariant-loop-index
invariant-loop-index l =
    l.entries.items ++ joins_along l.source l.first (drop l.index l.rest) l.part l.into ≡ l.initial.entries.items ++ joins_along l.source l.passed l.rest l.first_part l.into
