use Rattle.std.proofs.Common.{sym, ap, ◌∙◌}
use Rattle.evidence_text.specs.Reading.{text_read}
use Rattle.evidence_text.specs.EvidenceText.{plain}
use Rattle.evidence_text.proofs.BodyLaws.{LineLaws}
use Rattle.evidence_text.proofs.BytesLaws.{LinesLaw, text_again, text_back}
use Rattle.evidence_text.proofs.FoundLaws.{same_ok}
use Rattle.evidence_text.proofs.laws.texts_are_what_is_read.Goals as goal

pub returns : goal.returns
returns c =
    let f = c.first_lines.ensures in
    let laws : LineLaws = record {
      version = f.version;
      kinds = f.kinds;
      counts = f.counts;
      rows = f.rows;
      size = f.size;
      end = f.end;
      steps = c.step_lines.ensures;
      nodes = c.node_lines.ensures;
      roles = c.role_lines.ensures;
      omitted = c.omitted_lines.ensures;
      entries = c.entry_lines.ensures;
      classes = c.model_lines.ensures.classes;
      properties = c.model_lines.ensures.properties;
    } in
    let l = c.lines_are_what_is_written.ensures in
    let lines : LinesLaw = record { again = l.again; back = l.back } in
    record {
      again = λ e has is. text_again laws lines e has is;
      back = λ text e eq. let found = text_back laws lines text e eq in (found.spelled, found.has, found.is);
      alone = λ e other has is had was same. same_ok (plain e) (plain other) (sym (text_again laws lines e has is) ∙ ap text_read same ∙ text_again laws lines other had was);
    }
