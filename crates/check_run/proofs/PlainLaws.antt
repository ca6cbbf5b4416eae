-- Evidence with room in its journal is answered as evidence without.
use Rattle.std.proofs.Common.{◌≡◌, ℕ, List, inl, inr, ⊎_elim}
use Rattle.std.specs.Prelude.{Option, Some, None, Ok}
use Rattle.el_logic.specs.declared.types.Part.{Part}
use Rattle.case_load.specs.declared.texts.Loaded.{Loaded}
use Rattle.case_file.specs.Cases.{CaseView}
use Rattle.evidence_text.specs.declared.types.Body.{Body}
use Rattle.evidence_text.specs.declared.types.Body.TheVariants as body
use Rattle.evidence_text.specs.declared.types.Evidence.{Evidence}
use Rattle.evidence_text.specs.EvidenceText.{plain, plain_body}
use Rattle.evidence_text.specs.Reading.{text_read}
use Rattle.valid_evidence.specs.Items.{case_loaded}
use Rattle.valid_evidence.specs.Valid.{HasLists, IsDiagnosisBody, IsRefusalBody, IsValidEvidence, IsValidRefusal}
use Rattle.check_items.specs.declared.item.BadItem.{BadItem}
use Rattle.check_items.specs.declared.item.BadItem.TheVariants as item
use Rattle.check_items.specs.Bad.{HasDiagnosis, HasRefusal, IsBadBody, IsBadEvidence, IsBadPartBody, IsBadRefusal, IsItemAnswer, IsListFault, IsRefusalAnswer}
use Rattle.check_run.specs.declared.reading.CheckTexts.{CheckTexts}
use Rattle.check_run.specs.Inside.Stages.{IsRefusedAnswer, IsRunAnswer}

-- the lists are the same
plain_lists : (loaded : Loaded) (e : Evidence) → HasLists loaded e → HasLists loaded (plain e)
plain_lists loaded e h = record { omitted = h.omitted; nodes = h.nodes; roles = h.roles }

plain_list_fault : (loaded : Loaded) (e : Evidence) (bad : BadItem) → IsListFault loaded e bad → IsListFault loaded (plain e) bad
plain_list_fault loaded e item.Omitted h = h
plain_list_fault loaded e item.Nodes h = h
plain_list_fault loaded e item.Roles h = h
plain_list_fault loaded e _ h = absurd h

-- ---- a diagnosis

plain_diagnosis : (loaded : Loaded) (out : List ℕ) (b : Body) → IsDiagnosisBody loaded out b → IsDiagnosisBody loaded out (plain_body b)
plain_diagnosis loaded out (body.Diagnosis removed model journal) h = h
plain_diagnosis loaded out (body.Refusal steps) h = absurd h

plain_bad_body : (loaded : Loaded) (out : List ℕ) (b : Body) (bad : BadItem) → IsBadBody loaded out b bad → IsBadBody loaded out (plain_body b) bad
plain_bad_body loaded out (body.Diagnosis removed model journal) bad h = h
plain_bad_body loaded out (body.Refusal steps) bad h = absurd h

plain_has : (b : Body) → HasDiagnosis b → HasDiagnosis (plain_body b)
plain_has (body.Diagnosis removed model journal) h = tt
plain_has (body.Refusal steps) h = absurd h

has_of_plain : (b : Body) → HasDiagnosis (plain_body b) → HasDiagnosis b
has_of_plain (body.Diagnosis removed model journal) h = tt
has_of_plain (body.Refusal steps) h = absurd h

-- valid evidence stays valid
plain_valid : (loaded : Loaded) (out : List ℕ) (e : Evidence) → IsValidEvidence loaded out e → IsValidEvidence loaded out (plain e)
plain_valid loaded out e v =
    record { kind = v.kind; lists = plain_lists loaded e v.lists; body = plain_diagnosis loaded out e.body v.body }

-- the same item fails
plain_bad : (loaded : Loaded) (out : List ℕ) (e : Evidence) (bad : BadItem) → IsBadEvidence loaded out e bad → IsBadEvidence loaded out (plain e) bad
plain_bad loaded out e item.Kind h = λ of. h (of.0, has_of_plain e.body of.1)
plain_bad loaded out e bad h = (
  (h.0.0, plain_has e.body h.0.1),
  ⊎_elim (λ fault. inl (plain_list_fault loaded e bad fault)) (λ wrong. inr (plain_lists loaded e wrong.0, plain_bad_body loaded out e.body bad wrong.1)) h.1,
)

-- what is answered of evidence that is read
pub run_answer_of : (loaded : Loaded) (texts : CheckTexts) (e : Evidence) (answer : Option BadItem) → text_read texts.evidence ≡ Ok (plain e)
    → IsItemAnswer loaded texts.out e answer → IsRunAnswer loaded texts answer
run_answer_of loaded texts e None read v = (plain e, read, plain_valid loaded texts.out e v)
run_answer_of loaded texts e (Some bad) read h = inr (plain e, read, plain_bad loaded texts.out e bad h)

-- ---- a refusal

plain_refusal : (case : CaseView) (part : Part) (b : Body) → IsRefusalBody case part b → IsRefusalBody case part (plain_body b)
plain_refusal case part (body.Diagnosis removed model journal) h = absurd h
plain_refusal case part (body.Refusal steps) h = h

plain_bad_part : (case : CaseView) (part : Part) (b : Body) (bad : BadItem) → IsBadPartBody case part b bad → IsBadPartBody case part (plain_body b) bad
plain_bad_part case part (body.Diagnosis removed model journal) bad h = absurd h
plain_bad_part case part (body.Refusal steps) bad h = h

plain_refuses : (b : Body) → HasRefusal b → HasRefusal (plain_body b)
plain_refuses (body.Diagnosis removed model journal) h = absurd h
plain_refuses (body.Refusal steps) h = tt

refuses_of_plain : (b : Body) → HasRefusal (plain_body b) → HasRefusal b
refuses_of_plain (body.Diagnosis removed model journal) h = absurd h
refuses_of_plain (body.Refusal steps) h = tt

plain_valid_refusal : (loaded : Loaded) (part : Part) (e : Evidence) → IsValidRefusal loaded part e → IsValidRefusal loaded part (plain e)
plain_valid_refusal loaded part e v =
    record { kind = v.kind; lists = plain_lists loaded e v.lists; body = plain_refusal (case_loaded loaded) part e.body v.body }

plain_bad_refusal : (loaded : Loaded) (e : Evidence) (bad : BadItem) → IsBadRefusal loaded e bad → IsBadRefusal loaded (plain e) bad
plain_bad_refusal loaded e item.Kind h = λ part of. h part (of.0, refuses_of_plain e.body of.1)
plain_bad_refusal loaded e bad h = (
  h.0,
  (h.1.0, plain_refuses e.body h.1.1),
  ⊎_elim (λ fault. inl (plain_list_fault loaded e bad fault)) (λ wrong. inr (plain_lists loaded e wrong.0, plain_bad_part (case_loaded loaded) h.0 e.body bad wrong.1)) h.2,
)

pub refused_answer_of : (loaded : Loaded) (texts : CheckTexts) (e : Evidence) (answer : Option BadItem) → text_read texts.evidence ≡ Ok (plain e)
    → IsRefusalAnswer loaded e answer → IsRefusedAnswer loaded texts answer
refused_answer_of loaded texts e None read v = (v.0, plain e, read, plain_valid_refusal loaded v.0 e v.1)
refused_answer_of loaded texts e (Some bad) read h = inr (plain e, read, plain_bad_refusal loaded e bad h)
