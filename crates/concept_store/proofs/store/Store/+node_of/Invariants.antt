use Rattle.std.proofs.Common.{◌≡◌, Some, take, fold}
use Rattle.concept_store.specs.Inside.Numbering.{node_both}
use Rattle.concept_store.proofs.store.Store.+node_of.Given as goal

abbrev pub decreases-node_of : goal.decreases-node_of
decreases-node_of l = goal.size-node_of l

abbrev pub invariant-loop-operand : goal.invariant-loop-operand
invariant-loop-operand l = Some l.whole ≡ fold (node_both l.self.nodes) (Some l.initial.whole) (take l.operand-index l.rest)
