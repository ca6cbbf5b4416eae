use Rattle.std.proofs.Common.{ap, subst, ◌∙◌}
use Rattle.evidence_text.specs.EvidenceText.{plain}
use Rattle.evidence_text.specs.Reading.{text_read, GivesRead}
use Rattle.evidence_text.proofs.FoundLaws.{is_found}
use Rattle.evidence_text.proofs.reading.read_evidence.Goals as goal

pub returns-clause-found : goal.returns-clause-found
returns-clause-found c = is_found c.texts_are_what_is_read.ensures.back c.args.bytes.now c.read.result c.read.ensures

pub returns-clause-only : goal.returns-clause-only
returns-clause-only c = λ e has is spelled.
    subst (λ r. GivesRead plain c.read.result r) (ap text_read spelled ∙ c.texts_are_what_is_read.ensures.again e has is) c.read.ensures
