use Rattle.std.proofs.Common.{◌≡◌, ◌-◌, length, None}
use Rattle.evidence_text.specs.Reading.{rows}
use Rattle.evidence_text.specs.Inside.Loops.{with_front}
use Rattle.evidence_text.proofs.reading.rows.Given as goal

abbrev pub invariant-loop-alloc : goal.invariant-loop-alloc
invariant-loop-alloc l =
    with_front l.removed.items (rows l.first (l.count - length l.removed.items) l.before l.at) ≡ rows l.first l.count None l.fn.cursor

abbrev pub decreases-loop-alloc : goal.decreases-loop-alloc
decreases-loop-alloc l = l.count - length l.removed.items
