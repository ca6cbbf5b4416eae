use Rattle.std.proofs.Common.{sym, subst}
use Rattle.derivation.specs.Traces.{EachNamesEarlier}
use Rattle.worked_derivations.proofs.traces.listed.Goals as goal

pub put-requires-clause-earlier : goal.put-requires-clause-earlier
put-requires-clause-earlier c =
    subst (λ items. EachNamesEarlier items) (sym c.reserve.ensures.list) c.loop-line.invariant
