-- What evidence has to show, item by item.
use Rattle.std.specs.Prelude.{◌≡◌, ℕ, ◌≤◌, List, [], map, length, slice_index_or, All}
use Rattle.std.specs.Arc.{arc_value}
use Rattle.el_logic.specs.declared.types.Interp.{Interp}
use Rattle.el_logic.specs.declared.types.Part.{Part}
use Rattle.el_logic.specs.Meaning.{IsInterp, IsMember, Holds}
use Rattle.concept_store.specs.declared.types.Node.{Node}
use Rattle.concept_store.specs.declared.types.Node.TheVariants as node
use Rattle.concept_store.specs.declared.types.RoleNode.{RoleNode}
use Rattle.concept_store.specs.declared.types.RoleNode.TheVariants as role
use Rattle.derivation.specs.declared.types.Step.{Step}
use Rattle.derivation.specs.Steps.{IsGoodDerivation}
use Rattle.accuse_core.specs.declared.journal.Entry.{Entry}
use Rattle.accuse_core.specs.Marks.{opening}
use Rattle.accuse_core.specs.Journal.{replayed, AreReplied}
use Rattle.case_file.specs.Cases.{CaseView, IsMustHave}
use Rattle.case_file.specs.Incoherence.{axioms_for, name_of}
use Rattle.case_load.specs.declared.texts.Loaded.{Loaded}
use Rattle.repaired_table.specs.Repaired.{repaired_text}
use Rattle.evidence_lines.specs.declared.types.Kind.TheVariants as kind
use Rattle.evidence_lines.specs.declared.types.NodeLine.{NodeLine}
use Rattle.evidence_lines.specs.declared.types.NodeLine.TheVariants as node_is
use Rattle.evidence_lines.specs.declared.types.RoleLine.{RoleLine}
use Rattle.evidence_lines.specs.declared.types.RoleLine.TheVariants as role_is
use Rattle.evidence_text.specs.declared.types.Removed.{Removed}
use Rattle.evidence_text.specs.declared.types.Evidence.{Evidence}
use Rattle.valid_evidence.specs.Rows.{rows_left, decided_marks, ranks_left, ranks_up_to, rank_of_row, steps_by_rank}

abbrev pub case_loaded : Loaded → CaseView
case_loaded loaded = arc_value loaded.case

-- ---- what a diagnosis and a refusal have both

-- the evidence is of a diagnosis, or of the refusal of a part
abbrev pub IsDiagnosis : Evidence → Type 0
IsDiagnosis e = e.kind ≡ kind.Diagnosis

abbrev pub IsRefusalOf : Part → Evidence → Type 0
IsRefusalOf part e = e.kind ≡ kind.Refusal part

-- it lists what is left out of the documents
abbrev pub ListsOmitted : Loaded → Evidence → Type 0
ListsOmitted loaded e = e.omitted ≡ loaded.omitted

-- a node of the case: a class by its IRI, other nodes by the numbers of their parts
abbrev pub line_of_node : List (List ℕ) → Node → NodeLine
line_of_node classes node.Top = node_is.Top
line_of_node classes node.Bottom = node_is.Bottom
line_of_node classes (node.Class class) = node_is.Class (slice_index_or classes class [])
line_of_node classes (node.And one other) = node_is.And one other
line_of_node classes (node.Exists role filler) = node_is.Exists role filler

-- a role of the case: a property by its IRI, or a part of a chain
abbrev pub line_of_role : List (List ℕ) → RoleNode → RoleLine
line_of_role properties (role.Named property) =
    role_is.Property (slice_index_or properties property [])
line_of_role properties (role.Part side number length) = role_is.Part side number length

-- it lists the nodes of the case, and the roles, in order
abbrev pub ListsNodes : Loaded → Evidence → Type 0
ListsNodes loaded e =
    e.nodes ≡ map (line_of_node loaded.names.classes.names) (case_loaded loaded).store.nodes

abbrev pub ListsRoles : Loaded → Evidence → Type 0
ListsRoles loaded e =
    e.roles ≡ map (line_of_role loaded.names.roles.names) (case_loaded loaded).store.roles

-- ---- a diagnosis

-- the number of a removed row is that of a row of the table
abbrev pub IsRowOfTable : Loaded → Removed → Type 0
IsRowOfTable loaded r = (1 ≤ r.row) × (r.row ≤ length loaded.table.rows)

-- OUT is the text of the table with the rows that are left
abbrev pub IsOutOf : Loaded → List ℕ → List Removed → Type 0
IsOutOf loaded out removed =
    out ≡ repaired_text loaded.table (rows_left removed (length loaded.table.rows))

-- the steps of a removed row derive, from both documents, this row and the rows before it in the
-- order that are left, that a class is empty that must have a member
abbrev pub IsShownEmpty : CaseView → List Removed → Removed → Type 0
IsShownEmpty case removed r =
    let ranks = ranks_up_to (ranks_left removed case.order) (rank_of_row case.order r.row) in
    IsGoodDerivation case Part.Both ranks (steps_by_rank case.order r.steps)

-- the model is an interpretation of the names of the case
abbrev pub HasModelForm : CaseView → Interp → Type 0
HasModelForm case model = IsInterp case.classes case.properties model

-- both documents and the rows that are left hold in the model
abbrev pub HoldInModel : CaseView → List Removed → Interp → Type 0
HoldInModel case removed model =
    All (Holds model) (axioms_for case Part.Both (ranks_left removed case.order))

-- each class that must have a member has one
abbrev pub HaveMembers : CaseView → Interp → Type 0
HaveMembers case model =
    (node : ℕ) → IsMustHave case node → (x : ℕ) × IsMember model x (name_of node)

-- each entry of the journal fits at its place, and has the core's reply
abbrev pub IsRepliedJournal : CaseView → List Entry → Type 0
IsRepliedJournal case entries = AreReplied (opening (length case.order)) entries

-- after the journal all ranks are decided, and the removed ones are those of the removed rows
abbrev pub EndsDecided : CaseView → List Removed → List Entry → Type 0
EndsDecided case removed entries =
    replayed (length case.order) entries ≡ decided_marks removed case.order

-- ---- a refusal

-- the steps derive from the part alone that a class is empty that must have a member
abbrev pub IsPartShownEmpty : CaseView → Part → List Step → Type 0
IsPartShownEmpty case part steps = IsGoodDerivation case part [] (steps_by_rank case.order steps)
