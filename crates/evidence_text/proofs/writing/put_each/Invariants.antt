use Rattle.std.proofs.Common.{◌≡◌, ◌++◌, drop}
use Rattle.line_fields.specs.Lines.{text_of}
use Rattle.std.specs.List.{flat_map}
use Rattle.evidence_text.specs.EvidenceText.{removed_lines}
use Rattle.evidence_text.proofs.writing.put_each.Given as goal

abbrev pub invariant-loop-removed : goal.invariant-loop-removed
invariant-loop-removed l =
    l.text ++ text_of (flat_map removed_lines (drop l.removed-index l.rows)) ≡ l.fn.text ++ text_of (flat_map removed_lines l.rows)
