use Rattle.derivation.specs.Traces.{EachNamesEarlier}
use Rattle.worked_derivations.proofs.traces.listed.Given as goal

abbrev pub invariant-loop-line : goal.invariant-loop-line
invariant-loop-line l = EachNamesEarlier l.table.list
