use Rattle.std.proofs.Common.{◌≡◌, ◌++◌, drop}
use Rattle.line_fields.specs.Lines.{spaced}
use Rattle.evidence_lines.specs.Model.{element_fields}
use Rattle.evidence_lines.proofs.put_model.put_elements.Given as goal

abbrev pub invariant-loop-element : goal.invariant-loop-element
invariant-loop-element l =
    l.text ++ spaced (element_fields (drop l.element-index l.elements)) ≡ l.fn.text ++ spaced (element_fields l.elements)
