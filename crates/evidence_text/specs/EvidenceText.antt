-- The text of evidence, section by section, and which values have one.
use Rattle.std.specs.Prelude.{◌≡◌, ℕ, ◌+◌, ◌<◌, ◌^◌, nat_lt, Bool, true, List, [], ◌∷◌, ◌++◌, length, map, codes, Option, Some, None, ⊤}
use Rattle.std.specs.List.{AllByRecursion, flat_map}
use Rattle.el_logic.specs.declared.types.Side.{Side}
use Rattle.el_logic.specs.declared.types.Side.TheVariants as side
use Rattle.el_logic.specs.declared.types.Interp.{Interp}
use Rattle.accuse_core.specs.Seen.{EntriesSeen}
use Rattle.ofn_axiom.specs.declared.types.Omitted.{Omitted}
use Rattle.ofn_axiom.specs.declared.types.SideOmitted.{SideOmitted}
use Rattle.line_fields.specs.Lines.{Fields, text_of}
use Rattle.evidence_lines.specs.declared.types.Kind.{Kind}
use Rattle.evidence_lines.specs.declared.types.Kind.TheVariants as kind
use Rattle.evidence_lines.specs.declared.types.SidedOmitted.{SidedOmitted}
use Rattle.evidence_lines.specs.FirstLines.{version_fields, kind_fields, numbered, row_fields, end_fields}
use Rattle.evidence_lines.specs.Steps.{step_fields, HasStepLine, AreStepNumbers}
use Rattle.evidence_lines.specs.Names.{node_fields, role_fields, HasNodeLine, HasRoleLine, IsNodeValue, IsRoleValue}
use Rattle.evidence_lines.specs.Omitted.{omitted_fields, omitted_before, ArePlaceNumbers}
use Rattle.evidence_lines.specs.Journal.{entry_fields, HasEntryLine, AreEntryNumbers}
use Rattle.evidence_lines.specs.Model.{class_fields, property_fields, HasClassLine, HasPropertyLine, AreElementNumbers, ArePairNumbers}
use Rattle.evidence_text.specs.declared.types.Removed.{Removed}
use Rattle.evidence_text.specs.declared.types.Body.{Body}
use Rattle.evidence_text.specs.declared.types.Body.TheVariants as body
use Rattle.evidence_text.specs.declared.types.Evidence.{Evidence}

-- ---- the lines

-- a section: a first line that counts its entries, and a line for each entry
abbrev pub section_lines : {X : Type 0} → List ℕ → (X → Fields) → List X → List Fields
section_lines word spell xs = numbered word (length xs) ∷ map spell xs

abbrev pub of_side : Side → Omitted → SidedOmitted
of_side s o = record { side = s; omitted = o }

-- the axioms that are left out, LEFT's first
abbrev pub omitted_list : SideOmitted → List SidedOmitted
omitted_list o = map (of_side side.Left) o.left ++ map (of_side side.Right) o.right

-- a removed row, and its steps
abbrev pub removed_lines : Removed → List Fields
removed_lines r = row_fields r.row (length r.steps) ∷ map step_fields r.steps

abbrev pub rows_lines : List Removed → List Fields
rows_lines rows = numbered (codes "removed") (length rows) ∷ flat_map removed_lines rows

-- a line for each, from a place on
abbrev pub lines_from : {X : Type 0} → (ℕ → X → Fields) → ℕ → List X → List Fields
lines_from spell place [] = []
lines_from spell place (x ∷ xs) = spell place x ∷ lines_from spell (place + 1) xs

-- the size, then the classes and the properties in order
abbrev pub model_lines : Interp → List Fields
model_lines m =
    numbered (codes "model") m.size
    ∷ (lines_from class_fields 0 m.classes ++ lines_from property_fields 0 m.roles)

abbrev pub body_lines : Body → List Fields
body_lines (body.Diagnosis removed model journal) =
    rows_lines removed
    ++ (model_lines model ++ section_lines (codes "journal") entry_fields journal.entries)
body_lines (body.Refusal steps) = section_lines (codes "steps") step_fields steps

-- what is left out, the nodes and the roles
abbrev pub lists_lines : Evidence → List Fields
lists_lines e =
    section_lines (codes "omitted") omitted_fields (omitted_list e.omitted)
    ++ (section_lines (codes "nodes") node_fields e.nodes
    ++ section_lines (codes "roles") role_fields e.roles)

abbrev pub evidence_lines : Evidence → List Fields
evidence_lines e =
    version_fields ∷ kind_fields e.kind ∷ (lists_lines e ++ (body_lines e.body ++ end_fields ∷ []))

-- the text of evidence
unfoldable pub evidence_text : Evidence → List ℕ
evidence_text e = text_of (evidence_lines e)

-- ---- which values have a text

-- each may follow the one before it
abbrev pub InOrder : {X : Type 0} → (X → X → Bool) → Option X → List X → Type 0
InOrder follows before [] = ⊤
InOrder follows None (x ∷ xs) = InOrder follows (Some x) xs
InOrder follows (Some before) (x ∷ xs) = (follows before x ≡ true) × InOrder follows (Some x) xs

abbrev pub row_before : Removed → Removed → Bool
row_before r s = nat_lt r.row s.row

-- each has a line at its place, from a place on
abbrev pub HaveLinesFrom : {X : Type 0} → (ℕ → X → Type 0) → ℕ → List X → Type 0
HaveLinesFrom HasLine place [] = ⊤
HaveLinesFrom HasLine place (x ∷ xs) = HasLine place x × HaveLinesFrom HasLine (place + 1) xs

-- the kind agrees with the body, rows ascend, and each entry has a line
abbrev pub HasBodyText : Kind → Body → Type 0
HasBodyText kind.Diagnosis (body.Diagnosis removed model journal) =
    InOrder row_before None removed
    × AllByRecursion (λ r. AllByRecursion HasStepLine r.steps) removed
    × HaveLinesFrom HasClassLine 0 model.classes
    × HaveLinesFrom HasPropertyLine 0 model.roles
    × AllByRecursion HasEntryLine journal.entries
HasBodyText kind.Diagnosis (body.Refusal steps) = ⊥
HasBodyText (kind.Refusal p) (body.Diagnosis removed model journal) = ⊥
HasBodyText (kind.Refusal p) (body.Refusal steps) = AllByRecursion HasStepLine steps

-- the evidence has a text
pub record HasText (e : Evidence) : Type 0 where
  pub omitted : InOrder omitted_before None (omitted_list e.omitted)
  pub nodes : AllByRecursion HasNodeLine e.nodes
  pub roles : AllByRecursion HasRoleLine e.roles
  pub body : HasBodyText e.kind e.body

-- ---- what is so of every value in memory: numbers are those of their types

pub record AreRemovedNumbers (r : Removed) : Type 0 where
  pub row : r.row < 2 ^ 32
  pub count : length r.steps < 2 ^ 64
  pub steps : AllByRecursion AreStepNumbers r.steps

pub record AreModelNumbers (m : Interp) : Type 0 where
  pub size : m.size < 2 ^ 32
  pub classes : AllByRecursion AreElementNumbers m.classes
  pub roles : AllByRecursion ArePairNumbers m.roles

abbrev pub AreBodyNumbers : Body → Type 0
AreBodyNumbers (body.Diagnosis removed model journal) =
    (length removed < 2 ^ 64) × AllByRecursion AreRemovedNumbers removed
    × AreModelNumbers model
    × (length journal.entries < 2 ^ 64) × AllByRecursion AreEntryNumbers journal.entries
AreBodyNumbers (body.Refusal steps) = (length steps < 2 ^ 64) × AllByRecursion AreStepNumbers steps

pub record IsEvidenceValue (e : Evidence) : Type 0 where
  pub omitted_count : length (omitted_list e.omitted) < 2 ^ 64
  pub omitted : AllByRecursion ArePlaceNumbers (omitted_list e.omitted)
  pub nodes_count : length e.nodes < 2 ^ 64
  pub nodes : AllByRecursion IsNodeValue e.nodes
  pub roles_count : length e.roles < 2 ^ 64
  pub roles : AllByRecursion IsRoleValue e.roles
  pub body : AreBodyNumbers e.body

-- the journal without the room that it has for more
abbrev pub without_room : EntriesSeen → EntriesSeen
without_room journal = record { entries = journal.entries; room = 0 }

abbrev pub plain_body : Body → Body
plain_body (body.Diagnosis removed model journal) =
    body.Diagnosis removed model (without_room journal)
plain_body (body.Refusal steps) = body.Refusal steps

-- the evidence, apart from the room of its journal
abbrev pub plain : Evidence → Evidence
plain e = record {
  kind = e.kind;
  omitted = e.omitted;
  nodes = e.nodes;
  roles = e.roles;
  body = plain_body e.body;
}
