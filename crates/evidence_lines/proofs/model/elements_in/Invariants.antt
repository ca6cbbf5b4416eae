use Rattle.std.proofs.Common.{◌≡◌, None, length}
use Rattle.evidence_lines.specs.Inside.Fronts.{with_front}
use Rattle.evidence_lines.specs.Model.{elements_in}
use Rattle.evidence_lines.proofs.model.elements_in.Given as goal

abbrev pub invariant-loop-field : goal.invariant-loop-field
invariant-loop-field l = with_front l.elements (elements_in l.before l.rest) ≡ elements_in None l.fn.fields

abbrev pub decreases-loop-field : goal.decreases-loop-field
decreases-loop-field l = length l.rest
