use Rattle.std.proofs.Common.{◌≡◌, take}
use Rattle.case_tables.specs.Entries.{by_second}
use Rattle.case_tables.proofs.collect.by_second.Given as goal

abbrev pub invariant-loop-pair : goal.invariant-loop-pair
invariant-loop-pair l = l.entries.items ≡ by_second (take l.pair-index l.joins)
