-- The first item of evidence that fails.
use Rattle.std.specs.Prelude.{◌≡◌, ◌⊎◌, ℕ, List, [], length, Option, MatchOption, All, ⊤}
use Rattle.el_logic.specs.declared.types.Interp.{Interp}
use Rattle.el_logic.specs.declared.types.Part.{Part}
use Rattle.fact_table.specs.declared.types.Source.{Source}
use Rattle.text_names.specs.declared.limits.Limits.{Limits}
use Rattle.derivation.specs.declared.types.Step.{Step}
use Rattle.derivation.specs.declared.types.BadStep.TheVariants as Bad
use Rattle.derivation.specs.Steps.{IsBadStep}
use Rattle.accuse_core.specs.declared.journal.Entry.{Entry}
use Rattle.sssom_rows.specs.declared.table.Table.{Table}
use Rattle.case_file.specs.Cases.{CaseView}
use Rattle.case_load.specs.Loads.{IsCaseOf}
use Rattle.case_load.specs.declared.documents.Documents.{Documents}
use Rattle.case_load.specs.declared.texts.Loaded.{Loaded}
use Rattle.model_check.specs.declared.types.ModelFault.{ModelFault}
use Rattle.model_check.specs.declared.types.ModelFault.TheVariants as fault
use Rattle.model_check.specs.Faults.{Spoils}
use Rattle.closed_model.specs.Models.{IsModelFor}
use Rattle.evidence_text.specs.declared.types.Removed.{Removed}
use Rattle.evidence_text.specs.declared.types.Body.{Body}
use Rattle.evidence_text.specs.declared.types.Body.TheVariants as body
use Rattle.evidence_text.specs.declared.types.Evidence.{Evidence}
use Rattle.valid_evidence.specs.Rows.{ranks_left, steps_by_rank}
use Rattle.valid_evidence.specs.Items.{case_loaded, IsDiagnosis, IsRefusalOf, ListsOmitted, ListsNodes, ListsRoles, IsRowOfTable, IsOutOf, IsShownEmpty, HasModelForm, IsRepliedJournal, EndsDecided}
use Rattle.valid_evidence.specs.Valid.{HasLists, IsValidEvidence, IsValidRefusal}
use Rattle.check_items.specs.declared.item.BadItem.{BadItem}
use Rattle.check_items.specs.declared.item.BadItem.TheVariants as item
use Rattle.check_items.specs.Firsts.{IsFirstWithout, AreBadSteps, source_by_row, IsFirstUnreplied}

-- the case was made of the documents and the table
abbrev pub IsMade : Loaded → Type 0
IsMade loaded =
    (limits : Limits) × (documents : Documents) × (table : Table) × IsCaseOf limits documents table loaded

-- ---- what holds of a diagnosis up to an item

abbrev pub HasRows : Loaded → List Removed → Type 0
HasRows loaded removed = All (IsRowOfTable loaded) removed

abbrev pub HasOut : Loaded → List ℕ → List Removed → Type 0
HasOut loaded out removed = HasRows loaded removed × IsOutOf loaded out removed

abbrev pub HasShown : Loaded → List ℕ → List Removed → Type 0
HasShown loaded out removed =
    HasOut loaded out removed × All (IsShownEmpty (case_loaded loaded) removed) removed

abbrev pub HasModel : Loaded → List ℕ → List Removed → Interp → Type 0
HasModel loaded out removed model =
    HasShown loaded out removed
    × IsModelFor (case_loaded loaded) (ranks_left removed (case_loaded loaded).order) model

abbrev pub HasReplies : Loaded → List ℕ → List Removed → Interp → List Entry → Type 0
HasReplies loaded out removed model entries =
    HasModel loaded out removed model × IsRepliedJournal (case_loaded loaded) entries

-- ---- the first item that fails

-- a removed row with this number is no row of the table, and is the first
abbrev pub IsNoRow : Loaded → List Removed → ℕ → Type 0
IsNoRow loaded removed row =
    (r : Removed) × (r.row ≡ row) × IsFirstWithout (IsRowOfTable loaded) removed r

-- for the rows that are left, this is wrong with the model
abbrev pub SpoilsModel : CaseView → List Removed → Interp → ModelFault → Type 0
SpoilsModel case removed model fault = Spoils case (ranks_left removed case.order) model fault

-- of the items of a diagnosis this is the first that fails
abbrev pub IsBadDiagnosis : Loaded → List ℕ → List Removed → Interp → List Entry → BadItem → Type 0
IsBadDiagnosis loaded out removed model entries (item.Removed row) = IsNoRow loaded removed row
IsBadDiagnosis loaded out removed model entries item.Output =
    HasRows loaded removed × ¬ (IsOutOf loaded out removed)
IsBadDiagnosis loaded out removed model entries (item.Step row number) =
    HasOut loaded out removed × AreBadSteps (case_loaded loaded) removed row (Bad.Step number)
IsBadDiagnosis loaded out removed model entries (item.Goal row) =
    HasOut loaded out removed × AreBadSteps (case_loaded loaded) removed row Bad.Goal
IsBadDiagnosis loaded out removed model entries item.Form =
    HasShown loaded out removed × ¬ (HasModelForm (case_loaded loaded) model)
IsBadDiagnosis loaded out removed model entries (item.Axiom source) =
    HasShown loaded out removed × ((ranked : Source)
    × SpoilsModel (case_loaded loaded) removed model (fault.Axiom ranked)
    × (source ≡ source_by_row (case_loaded loaded).order ranked))
IsBadDiagnosis loaded out removed model entries (item.Class node) =
    HasShown loaded out removed × SpoilsModel (case_loaded loaded) removed model (fault.Class node)
IsBadDiagnosis loaded out removed model entries (item.Journal number) =
    HasModel loaded out removed model
    × IsFirstUnreplied (length (case_loaded loaded).order) entries number
IsBadDiagnosis loaded out removed model entries item.End =
    HasReplies loaded out removed model entries × ¬ (EndsDecided (case_loaded loaded) removed entries)
IsBadDiagnosis loaded out removed model entries _ = ⊥

-- ---- the whole evidence

-- of the three lists this is the first that isn't the case's
abbrev pub IsListFault : Loaded → Evidence → BadItem → Type 0
IsListFault loaded e item.Omitted = ¬ (ListsOmitted loaded e)
IsListFault loaded e item.Nodes = ListsOmitted loaded e × ¬ (ListsNodes loaded e)
IsListFault loaded e item.Roles =
    ListsOmitted loaded e × ListsNodes loaded e × ¬ (ListsRoles loaded e)
IsListFault loaded e _ = ⊥

abbrev pub IsBadBody : Loaded → List ℕ → Body → BadItem → Type 0
IsBadBody loaded out (body.Diagnosis removed model journal) bad =
    IsBadDiagnosis loaded out removed model journal.entries bad
IsBadBody loaded out (body.Refusal steps) bad = ⊥

-- the evidence is of a diagnosis, and has what belongs to one
abbrev pub HasDiagnosis : Body → Type 0
HasDiagnosis (body.Diagnosis removed model journal) = ⊤
HasDiagnosis (body.Refusal steps) = ⊥

abbrev pub IsOfDiagnosis : Evidence → Type 0
IsOfDiagnosis e = IsDiagnosis e × HasDiagnosis e.body

-- of all items this is the first that fails
abbrev pub IsBadEvidence : Loaded → List ℕ → Evidence → BadItem → Type 0
IsBadEvidence loaded out e item.Kind = ¬ (IsOfDiagnosis e)
IsBadEvidence loaded out e bad = IsOfDiagnosis e
    × (IsListFault loaded e bad ⊎ (HasLists loaded e × IsBadBody loaded out e.body bad))

-- what evidence is answered: it is valid, or which item is the first that fails
abbrev pub IsItemAnswer : Loaded → List ℕ → Evidence → Option BadItem → Type 0
IsItemAnswer loaded out e answer =
    MatchOption answer (IsValidEvidence loaded out e) (IsBadEvidence loaded out e)

-- ---- a refusal

abbrev pub HasRefusal : Body → Type 0
HasRefusal (body.Diagnosis removed model journal) = ⊥
HasRefusal (body.Refusal steps) = ⊤

abbrev pub IsOfRefusal : Part → Evidence → Type 0
IsOfRefusal part e = IsRefusalOf part e × HasRefusal e.body

-- why the steps show nothing of the part; they are of no row, so the row is 0
abbrev pub IsBadPart : CaseView → Part → List Step → BadItem → Type 0
IsBadPart case part steps (item.Step row number) =
    (row ≡ 0) × IsBadStep case part [] (steps_by_rank case.order steps) (Bad.Step number)
IsBadPart case part steps (item.Goal row) =
    (row ≡ 0) × IsBadStep case part [] (steps_by_rank case.order steps) Bad.Goal
IsBadPart case part steps _ = ⊥

abbrev pub IsBadPartBody : CaseView → Part → Body → BadItem → Type 0
IsBadPartBody case part (body.Diagnosis removed model journal) bad = ⊥
IsBadPartBody case part (body.Refusal steps) bad = IsBadPart case part steps bad

-- of the items of a refusal this is the first that fails
abbrev pub IsBadRefusal : Loaded → Evidence → BadItem → Type 0
IsBadRefusal loaded e item.Kind = (part : Part) → ¬ (IsOfRefusal part e)
IsBadRefusal loaded e bad = (part : Part) × IsOfRefusal part e
    × (IsListFault loaded e bad
    ⊎ (HasLists loaded e × IsBadPartBody (case_loaded loaded) part e.body bad))

-- what evidence of a refusal is answered: it is valid for its part, or which item is the first that
-- fails
abbrev pub IsRefusalAnswer : Loaded → Evidence → Option BadItem → Type 0
IsRefusalAnswer loaded e answer =
    MatchOption answer ((part : Part) × IsValidRefusal loaded part e) (IsBadRefusal loaded e)
