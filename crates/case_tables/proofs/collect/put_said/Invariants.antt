use Rattle.std.proofs.Common.{◌≡◌, ◌++◌, drop}
use Rattle.std.specs.List.{flat_map}
use Rattle.case_tables.specs.Keyed.{numbered_from}
use Rattle.case_tables.specs.Inside.Origins.{source_at}
use Rattle.case_tables.proofs.collect.put_said.Given as goal

abbrev pub invariant-loop-axiom : goal.invariant-loop-axiom
invariant-loop-axiom g l =
    l.entries.items ++ flat_map (λ named. g.T.SaidEntry.said named.0 named.1) (numbered_from (source_at l.origin) l.number (drop l.axiom-index l.axioms))
    ≡ l.initial.entries.items ++ flat_map (λ named. g.T.SaidEntry.said named.0 named.1) (numbered_from (source_at l.origin) 1 l.axioms)
