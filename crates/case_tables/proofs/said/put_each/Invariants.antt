use Rattle.std.proofs.Common.{◌≡◌, ◌++◌, map, take}
use Rattle.std.specs.List.{flat_map}
use Rattle.case_tables.proofs.said.put_each.Given as goal

abbrev pub invariant-loop-key : goal.invariant-loop-key
invariant-loop-key g l =
    l.entries.items ≡ l.initial.entries.items ++ flat_map (λ key. map (λ other. (key, g.T.IntoEntry.entry l.source other)) l.numbers) (take l.key-index l.numbers)
