use Rattle.std.proofs.Common.{take, All}
use Rattle.evidence_values.proofs.known.each.Given as goal

abbrev pub invariant-loop-item : goal.invariant-loop-item
invariant-loop-item g l = All g.X.Known.known (take l.item-index l.items)
