-- Valid evidence.
use Rattle.std.specs.Prelude.{ℕ, List, All}
use Rattle.el_logic.specs.declared.types.Interp.{Interp}
use Rattle.el_logic.specs.declared.types.Part.{Part}
use Rattle.accuse_core.specs.declared.journal.Entry.{Entry}
use Rattle.case_file.specs.Cases.{CaseView}
use Rattle.case_load.specs.declared.texts.Loaded.{Loaded}
use Rattle.evidence_text.specs.declared.types.Removed.{Removed}
use Rattle.evidence_text.specs.declared.types.Body.{Body}
use Rattle.evidence_text.specs.declared.types.Body.TheVariants as body
use Rattle.evidence_text.specs.declared.types.Evidence.{Evidence}
use Rattle.valid_evidence.specs.Items.{case_loaded, IsDiagnosis, IsRefusalOf, ListsOmitted, ListsNodes, ListsRoles, IsRowOfTable, IsOutOf, IsShownEmpty, HasModelForm, HoldInModel, HaveMembers, IsRepliedJournal, EndsDecided, IsPartShownEmpty}

-- the evidence lists what is left out, the nodes and the roles
pub record HasLists (loaded : Loaded) (e : Evidence) : Type 0 where
  pub omitted : ListsOmitted loaded e
  pub nodes : ListsNodes loaded e
  pub roles : ListsRoles loaded e

-- removed rows, a model and a journal show that OUT is the repaired table
pub record IsValidDiagnosis (loaded : Loaded) (out : List ℕ) (removed : List Removed)
    (model : Interp) (entries : List Entry) : Type 0 where
  pub rows : All (IsRowOfTable loaded) removed
  pub output : IsOutOf loaded out removed
  pub shown : All (IsShownEmpty (case_loaded loaded) removed) removed
  pub form : HasModelForm (case_loaded loaded) model
  pub axioms : HoldInModel (case_loaded loaded) removed model
  pub classes : HaveMembers (case_loaded loaded) model
  pub journal : IsRepliedJournal (case_loaded loaded) entries
  pub decided : EndsDecided (case_loaded loaded) removed entries

abbrev pub IsDiagnosisBody : Loaded → List ℕ → Body → Type 0
IsDiagnosisBody loaded out (body.Diagnosis removed model journal) =
    IsValidDiagnosis loaded out removed model journal.entries
IsDiagnosisBody loaded out (body.Refusal steps) = ⊥

-- valid evidence of a diagnosis, of what is loaded and the text of OUT
pub record IsValidEvidence (loaded : Loaded) (out : List ℕ) (e : Evidence) : Type 0 where
  pub kind : IsDiagnosis e
  pub lists : HasLists loaded e
  pub body : IsDiagnosisBody loaded out e.body

abbrev pub IsRefusalBody : CaseView → Part → Body → Type 0
IsRefusalBody case part (body.Diagnosis removed model journal) = ⊥
IsRefusalBody case part (body.Refusal steps) = IsPartShownEmpty case part steps

-- valid evidence of the refusal of a part
pub record IsValidRefusal (loaded : Loaded) (part : Part) (e : Evidence) : Type 0 where
  pub kind : IsRefusalOf part e
  pub lists : HasLists loaded e
  pub body : IsRefusalBody (case_loaded loaded) part e.body
