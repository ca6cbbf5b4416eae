use Rattle.std.proofs.Common.{◌≡◌, take}
use Rattle.diagnosis.specs.Rows.{keep_of}
use Rattle.diagnosis.proofs.rows.marked.Given as goal

abbrev pub invariant-loop-rank : goal.invariant-loop-rank
invariant-loop-rank l = l.keep.items ≡ keep_of l.case.order (take l.rank-index l.ranks)
