use Rattle.std.proofs.Common.{◌≡◌, ◌++◌, drop}
use Rattle.evidence_text.specs.Reading.{by_side}
use Rattle.evidence_text.proofs.reading.by_side.Given as goal

abbrev pub invariant-loop-omitted : goal.invariant-loop-omitted
invariant-loop-omitted l = record {
  left : l.left ++ (by_side (drop l.omitted-index l.list)).left ≡ (by_side l.list).left;
  right : l.right ++ (by_side (drop l.omitted-index l.list)).right ≡ (by_side l.list).right;
}
