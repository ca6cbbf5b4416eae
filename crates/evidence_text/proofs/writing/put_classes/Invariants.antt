use Rattle.std.proofs.Common.{◌≡◌, ◌++◌, drop}
use Rattle.line_fields.specs.Lines.{text_of}
use Rattle.evidence_lines.specs.Model.{class_fields}
use Rattle.evidence_text.specs.EvidenceText.{lines_from}
use Rattle.evidence_text.proofs.writing.put_classes.Given as goal

abbrev pub invariant-loop-place : goal.invariant-loop-place
invariant-loop-place l =
    l.text ++ text_of (lines_from class_fields l.place (drop l.place l.classes)) ≡ l.fn.text ++ text_of (lines_from class_fields 0 l.classes)
