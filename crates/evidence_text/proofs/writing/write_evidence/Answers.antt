use Rattle.std.proofs.Common.{◌++◌, ap, ◌∙◌}
use Rattle.line_fields.specs.Lines.{line, text_of}
use Rattle.evidence_lines.specs.FirstLines.{version_fields, kind_fields, end_fields}
use Rattle.evidence_text.specs.EvidenceText.{lists_lines, body_lines, evidence_text}
use Rattle.evidence_text.proofs.WriteLaws.{whole_text}
use Rattle.evidence_text.proofs.writing.write_evidence.Goals as goal

pub returns : goal.returns
unfolding evidence_text
returns c =
    let e = c.args.evidence.now in
    c.in_ok-put_end.ensures
    ∙ ap (λ t. t ++ line end_fields) (c.in_ok-put_body.ensures
    ∙ ap (λ t. t ++ text_of (body_lines e.body)) (c.in_ok-put_lists.ensures
    ∙ ap (λ t. t ++ text_of (lists_lines e)) (c.in_ok-put_head.ensures ∙ ap (λ t. (t ++ line version_fields) ++ line (kind_fields e.kind)) c.new-text.ensures)))
    ∙ whole_text version_fields (kind_fields e.kind) (lists_lines e) (body_lines e.body) end_fields
