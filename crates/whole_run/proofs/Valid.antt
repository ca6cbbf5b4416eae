-- Evidence that is written is valid evidence as it is read.
use Rattle.std.proofs.Common.{◌≡◌, List, ℕ, ap, ◌∙◌}
use Rattle.std.specs.Prelude.{Ok}
use Rattle.el_logic.specs.declared.types.Part.{Part}
use Rattle.case_file.specs.Cases.{CaseView}
use Rattle.case_load.specs.declared.texts.Loaded.{Loaded}
use Rattle.evidence_text.specs.declared.types.Body.{Body}
use Rattle.evidence_text.specs.declared.types.Body.TheVariants as body
use Rattle.evidence_text.specs.declared.types.Evidence.{Evidence}
use Rattle.evidence_text.specs.EvidenceText.{HasText, IsEvidenceValue, evidence_text, plain, plain_body}
use Rattle.evidence_text.specs.Reading.{text_read}
use Rattle.valid_evidence.specs.Items.{case_loaded}
use Rattle.valid_evidence.specs.Valid.{HasLists, IsDiagnosisBody, IsRefusalBody, IsValidEvidence, IsValidRefusal}
use Rattle.repair_run.specs.Outcomes.{IsEvidence, IsRefusalEvidence}
use Rattle.check_run.specs.declared.reading.CheckTexts.{CheckTexts}
use Rattle.check_run.specs.Verdicts.{IsValidRun, IsValidRefused}

-- valid evidence doesn't depend on the room of its journal
diagnosis_plain : (loaded : Loaded) (out : List ℕ) (b : Body) → IsDiagnosisBody loaded out b → IsDiagnosisBody loaded out (plain_body b)
diagnosis_plain loaded out (body.Diagnosis removed model journal) h = h
diagnosis_plain loaded out (body.Refusal steps) h = h

refusal_plain : (case : CaseView) (part : Part) (b : Body) → IsRefusalBody case part b → IsRefusalBody case part (plain_body b)
refusal_plain case part (body.Diagnosis removed model journal) h = h
refusal_plain case part (body.Refusal steps) h = h

lists_plain : (loaded : Loaded) (e : Evidence) → HasLists loaded e → HasLists loaded (plain e)
lists_plain loaded e h = record { omitted = h.omitted; nodes = h.nodes; roles = h.roles }

pub valid_plain : (loaded : Loaded) (out : List ℕ) (e : Evidence) → IsValidEvidence loaded out e → IsValidEvidence loaded out (plain e)
valid_plain loaded out e h =
    record { kind = h.kind; lists = lists_plain loaded e h.lists; body = diagnosis_plain loaded out e.body h.body }

pub refusal_valid_plain : (loaded : Loaded) (part : Part) (e : Evidence) → IsValidRefusal loaded part e → IsValidRefusal loaded part (plain e)
refusal_valid_plain loaded part e h =
    record { kind = h.kind; lists = lists_plain loaded e h.lists; body = refusal_plain (case_loaded loaded) part e.body h.body }

-- a text of evidence is read as the evidence
abbrev pub ReadAgain : Type 0
ReadAgain = (e : Evidence) → HasText e → IsEvidenceValue e → text_read (evidence_text e) ≡ Ok (plain e)

module _ (again : ReadAgain) where
  pub run_is_valid : (loaded : Loaded) (texts : CheckTexts) → IsEvidence loaded texts.out texts.evidence → IsValidRun loaded texts
  run_is_valid loaded texts (e, valid, has, value, bytes, shares) =
      (plain e, ap text_read bytes ∙ again e has value, valid_plain loaded texts.out e valid)

  pub refusal_is_valid : (loaded : Loaded) (part : Part) (texts : CheckTexts) → IsRefusalEvidence loaded part texts.evidence → IsValidRefused loaded texts
  refusal_is_valid loaded part texts (e, valid, has, value, bytes) =
      (part, plain e, ap text_read bytes ∙ again e has value, refusal_valid_plain loaded part e valid)
