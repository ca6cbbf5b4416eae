use Rattle.std.proofs.Common.{◌≡◌, ◌++◌, map, take}
use Rattle.case_tables.proofs.said.put_all.Given as goal

abbrev pub invariant-loop-other : goal.invariant-loop-other
invariant-loop-other g l =
    l.entries.items ≡ l.initial.entries.items ++ map (λ other. (l.key, g.T.IntoEntry.entry l.source other)) (take l.other-index l.numbers)
