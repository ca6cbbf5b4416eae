use Rattle.std.proofs.Common.{◌≡◌, ◌≤◌, ◌^◌, length}
use Rattle.evidence_lines.specs.Model.{pairs_of}
use Rattle.evidence_text.specs.Reading.{run_of, run_at}
use Rattle.evidence_text.specs.Inside.Loops.{with_run}
use Rattle.evidence_text.proofs.reading.properties.Given as goal

abbrev pub invariant-loop-fields : goal.invariant-loop-fields
invariant-loop-fields l = record {
  same : with_run l.roles (run_of pairs_of l.place l.at.read l.at.lines) ≡ run_at pairs_of l.fn.cursor;
  small : l.place ≤ 2 ^ 32;
}

abbrev pub decreases-loop-fields : goal.decreases-loop-fields
decreases-loop-fields l = length l.at.lines
