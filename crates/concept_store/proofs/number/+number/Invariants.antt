use Rattle.std.proofs.Common.{◌≡◌, ◌≤◌, length, take, fold}
use Rattle.concept_store.specs.Inside.Numbering.{numbered_both}
use Rattle.concept_store.proofs.number.+number.Given as goal

abbrev pub decreases-number : goal.decreases-number
decreases-number l = goal.size-number l

abbrev pub invariant-loop-operand : goal.invariant-loop-operand
invariant-loop-operand l = record {
  same : (l.whole, l.nodes.keys) ≡ fold numbered_both (l.initial.whole, l.initial.nodes.keys) (take l.operand-index l.rest);
  room : length l.fn.nodes.keys ≤ l.most → length l.nodes.keys ≤ l.most;
}
