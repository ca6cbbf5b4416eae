use Rattle.std.proofs.Common.{◌≡◌, ◌++◌, map, drop}
use Rattle.line_fields.specs.Lines.{text_of}
use Rattle.evidence_lines.specs.Omitted.{omitted_fields}
use Rattle.evidence_text.specs.EvidenceText.{of_side}
use Rattle.evidence_text.proofs.writing.put_side.Given as goal

abbrev pub invariant-loop-omitted : goal.invariant-loop-omitted
invariant-loop-omitted l =
    l.text ++ text_of (map omitted_fields (map (of_side l.side) (drop l.omitted-index l.list))) ≡ l.fn.text ++ text_of (map omitted_fields (map (of_side l.side) l.list))
