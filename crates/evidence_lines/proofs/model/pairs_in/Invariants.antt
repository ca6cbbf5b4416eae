use Rattle.std.proofs.Common.{◌≡◌, None, length}
use Rattle.evidence_lines.specs.Inside.Fronts.{with_front}
use Rattle.evidence_lines.specs.Model.{pairs_in}
use Rattle.evidence_lines.proofs.model.pairs_in.Given as goal

abbrev pub invariant-loop-field : goal.invariant-loop-field
invariant-loop-field l = with_front l.pairs (pairs_in l.before l.rest) ≡ pairs_in None l.fn.fields

abbrev pub decreases-loop-field : goal.decreases-loop-field
decreases-loop-field l = length l.rest
