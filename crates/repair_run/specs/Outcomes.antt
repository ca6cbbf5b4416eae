-- What two documents and a table say, which rows are kept, and the evidence of it.
use Rattle.std.specs.Prelude.{◌≡◌, ◌⊎◌, ℕ, ◌+◌, Bool, List, ◌++◌, length, slice_get, codes, count_by, Option, Some, None}
use Rattle.std.specs.Arc.{arc_value}
use Rattle.text_names.specs.declared.limits.Limits.{Limits}
use Rattle.io_edge.specs.Outside.{FolderSeen}
use Rattle.el_logic.specs.declared.types.Expr.{Expr}
use Rattle.el_logic.specs.declared.types.Expr.TheVariants.{Top, Name}
use Rattle.el_logic.specs.declared.types.Part.{Part}
use Rattle.el_logic.specs.Incoherent.{IsIncoherent, IsCoherent, IsFirstIncoherent}
use Rattle.conflict_logic.specs.Repair.{IsRepair}
use Rattle.case_file.specs.Cases.{CaseView}
use Rattle.case_file.specs.Incoherence.{axioms_for}
use Rattle.case_load.specs.Loads.{Inputs, inputs}
use Rattle.case_load.specs.Folders.{IsLoadedFrom}
use Rattle.case_load.specs.declared.texts.Loaded.{Loaded}
use Rattle.diagnosis.specs.Rows.{keep_of}
use Rattle.diagnosis.specs.Shares.{IsShared}
use Rattle.repaired_table.specs.Repaired.{repaired_text}
use Rattle.status_lines.specs.Lines.{summary_text}
use Rattle.evidence_text.specs.declared.types.Body.{Body}
use Rattle.evidence_text.specs.declared.types.Body.TheVariants as body
use Rattle.evidence_text.specs.declared.types.Evidence.{Evidence}
use Rattle.evidence_text.specs.EvidenceText.{HasText, IsEvidenceValue, evidence_text}
use Rattle.valid_evidence.specs.Valid.{IsValidEvidence, IsValidRefusal}
use Rattle.command_words.specs.declared.types.FileNames.{FileNames}
use Rattle.repair_run.specs.declared.request.Request.{Request}

abbrev pub inputs_named : FileNames → Inputs
inputs_named names = inputs names.left names.right names.map

-- the files with the names asked for are read: two documents, a table, and the case that they make
abbrev pub AreLoaded : FolderSeen → Request → Limits → Loaded → Type 0
AreLoaded folder asked limits loaded =
    IsLoadedFrom folder (inputs_named asked.names) asked.mode limits loaded

abbrev pub case_in : Loaded → CaseView
case_in loaded = arc_value loaded.case

-- both documents leave no class empty that must have a member
abbrev pub AreCoherentTogether : Loaded → Type 0
AreCoherentTogether loaded = let case = case_in loaded in
    IsCoherent case.classes case.properties (case.left ++ case.right)

-- the axioms of both documents and of the rows with these ranks leave one empty
abbrev pub AreIncoherentWith : CaseView → List ℕ → Type 0
AreIncoherentWith case ranks =
    IsIncoherent case.classes case.properties (axioms_for case Part.Both ranks)

-- what is read, and which ranks are kept: of all ranks exactly those that are not accused
pub record Outcome (IsRead : Loaded → Type 0) : Type 0 where
  pub loaded : Loaded
  pub read : IsRead loaded
  pub coherent : AreCoherentTogether loaded
  pub kept : List ℕ
  pub repair : IsRepair (AreIncoherentWith (case_in loaded)) (length (case_in loaded).order) kept

-- for each row of a table whether it is kept, if these ranks are
abbrev pub keep_in : Loaded → List ℕ → List Bool
keep_in loaded kept = keep_of (case_in loaded).order kept

abbrev pub kept_count : List Bool → ℕ
kept_count keep = count_by (λ keeps. keeps) keep

abbrev pub omitted_count : Loaded → ℕ
omitted_count loaded = length loaded.omitted.left + length loaded.omitted.right

-- the table with its kept rows, and the summary
abbrev pub out_text_of : Loaded → List ℕ → List ℕ
out_text_of loaded kept = repaired_text loaded.table (keep_in loaded kept)

abbrev pub summary_line : Loaded → List ℕ → List ℕ
summary_line loaded kept =
    summary_text (length loaded.table.rows) (kept_count (keep_in loaded kept)) loaded.inert
    (omitted_count loaded)

abbrev pub out_text : {IsRead : Loaded → Type 0} → Outcome IsRead → List ℕ
out_text o = out_text_of o.loaded o.kept

abbrev pub summary_of : {IsRead : Loaded → Type 0} → Outcome IsRead → List ℕ
summary_of o = summary_line o.loaded o.kept

-- in the journal of a diagnosis the workers share this number of ranks
abbrev pub HasShares : ℕ → Body → Type 0
HasShares n (body.Diagnosis removed model journal) = IsShared n journal.entries
HasShares n (body.Refusal steps) = ⊥

-- the bytes are the text of valid evidence: of OUT with what is kept, where workers share the ranks;
-- or of a part that is incoherent
abbrev pub IsEvidence : Loaded → List ℕ → List ℕ → Type 0
IsEvidence loaded out bytes = (e : Evidence) × IsValidEvidence loaded out e
    × HasText e × IsEvidenceValue e × (bytes ≡ evidence_text e)
    × HasShares (length (case_in loaded).order) e.body

abbrev pub IsRefusalEvidence : Loaded → Part → List ℕ → Type 0
IsRefusalEvidence loaded part bytes = (e : Evidence) × IsValidRefusal loaded part e
    × HasText e × IsEvidenceValue e × (bytes ≡ evidence_text e)

-- the IRI of a class that must have a member
abbrev pub iri_of_class : List (List ℕ) → Expr → Option (List ℕ)
iri_of_class names Top = Some (codes "http://www.w3.org/2002/07/owl#Thing")
iri_of_class names (Name number) = slice_get names number
iri_of_class names _ = None

-- what is read has this first part of the documents that leaves a class empty, in the order LEFT,
-- RIGHT, both, and the IRI is that of the first such class
pub record IsIncoherentCase (IsRead : Loaded → Type 0) (part : Part) (iri : List ℕ)
    : Type 0 where
  pub loaded : Loaded
  pub read : IsRead loaded
  pub class : Expr
  pub first : let case = case_in loaded in
      IsFirstIncoherent case.classes case.properties case.left case.right part class
  pub named : iri_of_class loaded.names.classes.names class ≡ Some iri

-- the documents that are read leave no class empty
pub record IsRepairable (IsRead : Loaded → Type 0) : Type 0 where
  pub loaded : Loaded
  pub read : IsRead loaded
  pub coherent : AreCoherentTogether loaded

-- they leave no class empty, or this part leaves this one empty
abbrev pub IsDecided : (Loaded → Type 0) → Type 0
IsDecided IsRead = IsRepairable IsRead
    ⊎ ((part : Part) × (class : List ℕ) × IsIncoherentCase IsRead part class)
