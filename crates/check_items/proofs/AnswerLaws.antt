-- Valid evidence has no item that fails, item by item.
use Rattle.std.proofs.Common.{ℕ, List, ⊎_elim}
use Rattle.el_logic.specs.declared.types.Interp.{Interp}
use Rattle.accuse_core.specs.declared.journal.Entry.{Entry}
use Rattle.accuse_core.specs.Marks.{opening}
use Rattle.case_load.specs.declared.texts.Loaded.{Loaded}
use Rattle.evidence_text.specs.declared.types.Removed.{Removed}
use Rattle.evidence_text.specs.declared.types.Body.{Body}
use Rattle.evidence_text.specs.declared.types.Body.TheVariants as body
use Rattle.evidence_text.specs.declared.types.Evidence.{Evidence}
use Rattle.valid_evidence.specs.Rows.{ranks_left}
use Rattle.valid_evidence.specs.Items.{case_loaded, IsRowOfTable, IsShownEmpty}
use Rattle.valid_evidence.specs.Valid.{HasLists, IsValidDiagnosis, IsDiagnosisBody, IsValidEvidence}
use Rattle.check_items.specs.declared.item.BadItem.{BadItem}
use Rattle.check_items.specs.declared.item.BadItem.TheVariants as item
use Rattle.check_items.specs.Bad.{IsBadDiagnosis, IsListFault, IsBadBody, HasDiagnosis, IsBadEvidence}
use Rattle.check_items.proofs.ItemLaws.{holds_of_first, no_axiom_fails}
use Rattle.check_items.proofs.ReplayLaws.{replied_at}

-- the right lists
lists_are_right : (loaded : Loaded) (e : Evidence) (bad : BadItem) → HasLists loaded e → IsListFault loaded e bad → ⊥
lists_are_right loaded e item.Omitted lists h = h lists.omitted
lists_are_right loaded e item.Nodes lists h = h.1 lists.nodes
lists_are_right loaded e item.Roles lists h = h.2 lists.roles
lists_are_right loaded e _ lists h = absurd h

module _ (loaded : Loaded) (out : List ℕ) (removed : List Removed) (model : Interp) (entries : List Entry) (v : IsValidDiagnosis loaded out removed model entries) where
  -- a valid diagnosis
  diagnosis_is_right : (bad : BadItem) → IsBadDiagnosis loaded out removed model entries bad → ⊥
  diagnosis_is_right (item.Removed row) h = holds_of_first (IsRowOfTable loaded) removed h.0 v.rows h.2
  diagnosis_is_right item.Output h = h.1 v.output
  diagnosis_is_right (item.Step row number) h = holds_of_first (IsShownEmpty (case_loaded loaded) removed) removed h.1.0 v.shown h.1.2
  diagnosis_is_right (item.Goal row) h = holds_of_first (IsShownEmpty (case_loaded loaded) removed) removed h.1.0 v.shown h.1.2
  diagnosis_is_right item.Form h = h.1 v.form
  diagnosis_is_right (item.Axiom source) h =
      no_axiom_fails model (case_loaded loaded) (ranks_left removed (case_loaded loaded).order) h.1.0 v.axioms h.1.1.1
  diagnosis_is_right (item.Class node) h =
      let member = v.classes node h.1.2.must in h.1.2.empty member.0 member.1
  diagnosis_is_right (item.Journal number) h =
      h.1.5 (replied_at (opening _) entries h.1.0 h.1.1 h.1.3 v.journal)
  diagnosis_is_right item.End h = h.1 v.decided
  diagnosis_is_right _ h = absurd h

-- the body
body_is_right : (loaded : Loaded) (out : List ℕ) (b : Body) (bad : BadItem) → IsDiagnosisBody loaded out b → IsBadBody loaded out b bad → ⊥
body_is_right loaded out (body.Diagnosis removed model journal) bad v h = diagnosis_is_right loaded out removed model journal.entries v bad h
body_is_right loaded out (body.Refusal steps) bad v h = absurd v

has_diagnosis : (loaded : Loaded) (out : List ℕ) (b : Body) → IsDiagnosisBody loaded out b → HasDiagnosis b
has_diagnosis loaded out (body.Diagnosis removed model journal) v = tt
has_diagnosis loaded out (body.Refusal steps) v = absurd v

-- the whole
pub never_both : (loaded : Loaded) (out : List ℕ) (e : Evidence) (bad : BadItem) → IsValidEvidence loaded out e → IsBadEvidence loaded out e bad → ⊥
never_both loaded out e item.Kind v h = h (v.kind, has_diagnosis loaded out e.body v.body)
never_both loaded out e bad v h =
    ⊎_elim (λ fault. lists_are_right loaded e bad v.lists fault) (λ wrong. body_is_right loaded out e.body bad v.body wrong.1) h.1
