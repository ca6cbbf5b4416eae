use Rattle.std.proofs.Common.{◌≡◌, ◌-◌, length, None}
use Rattle.evidence_text.specs.Reading.{entries}
use Rattle.evidence_text.specs.Inside.Loops.{with_front, last_of}
use Rattle.evidence_text.proofs.sections.entries.Given as goal

abbrev pub invariant-loop-alloc : goal.invariant-loop-alloc
invariant-loop-alloc g l =
    with_front l.items.items (entries g.X.LineEntry.form l.first (l.count - length l.items.items) (last_of l.items.items) l.at)
    ≡ entries g.X.LineEntry.form l.first l.count None l.fn.cursor

abbrev pub decreases-loop-alloc : goal.decreases-loop-alloc
decreases-loop-alloc g l = l.count - length l.items.items
