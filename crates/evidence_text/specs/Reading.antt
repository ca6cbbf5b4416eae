-- How a text is read: the value, or the first fault.
use Rattle.std.specs.Prelude.{◌≡◌, ℕ, zero, suc, ◌+◌, Bool, true, if◌then◌else◌, List, [], ◌∷◌, codes, Option, Some, None, Result, Ok, Err, ⊤}
use Rattle.std.specs.List.{slice_split}
use Rattle.byte_words.specs.Bytes.{is_line_feed}
use Rattle.el_logic.specs.declared.types.Side.{Side}
use Rattle.el_logic.specs.declared.types.Side.TheVariants as side
use Rattle.ofn_axiom.specs.declared.types.Omitted.{Omitted}
use Rattle.ofn_axiom.specs.declared.types.SideOmitted.{SideOmitted}
use Rattle.line_fields.specs.Lines.{Fields}
use Rattle.line_fields.specs.Reading.{At, fields_of, lines_of}
use Rattle.evidence_lines.specs.StepReading.{step_of}
use Rattle.evidence_lines.specs.Names.{node_of, role_of}
use Rattle.evidence_lines.specs.Omitted.{omitted_of, omitted_before}
use Rattle.evidence_lines.specs.Journal.{entry_of}
use Rattle.evidence_lines.specs.Model.{members_of, pairs_of}
use Rattle.evidence_lines.specs.declared.types.SidedOmitted.{SidedOmitted}
use Rattle.evidence_text.specs.declared.types.EvidenceFault.{EvidenceFault}
use Rattle.evidence_text.specs.declared.types.EvidenceFault.TheVariants.{Version, Line, Length, OutOfMemory}
use Rattle.evidence_lines.specs.declared.types.Kind.{Kind}
use Rattle.evidence_lines.specs.declared.types.Kind.TheVariants as kind
use Rattle.evidence_text.specs.declared.types.Removed.{Removed}
use Rattle.evidence_text.specs.declared.types.Body.{Body}
use Rattle.evidence_text.specs.declared.types.Body.TheVariants as body
use Rattle.evidence_text.specs.declared.types.Evidence.{Evidence}
use Rattle.evidence_lines.specs.FirstLines.{version_of, is_other_version, kind_of, count_of, row_of, size_of, end_of}

-- what is read, and the place after it
abbrev pub Read : Type 0 → Type 0
Read X = Result (X × At) EvidenceFault

infixl 10 ◌>>=◌
abbrev pub ◌>>=◌ : {A B : Type 0} → Result A EvidenceFault → (A → Result B EvidenceFault)
    → Result B EvidenceFault
(Ok x) >>= next = next x
(Err fault) >>= next = Err fault

abbrev pub of_form : {X : Type 0} → Option X → ℕ → List Fields → Read X
of_form None read lines = Err (Line (read + 1))
of_form (Some x) read lines = Ok (x, record { read = read + 1; lines = lines })

abbrev pub line_by : {X : Type 0} → (Fields → Option X) → EvidenceFault → ℕ → List Fields → Read X
line_by form missing read [] = Err missing
line_by form missing read (fields ∷ lines) = of_form (form fields) read lines

-- the next line, which has to be of a form; if the text ends, this is the fault
abbrev pub next_line : {X : Type 0} → (Fields → Option X) → EvidenceFault → At → Read X
next_line form missing at = line_by form missing at.read at.lines

-- so many entries of a section that begins at the line `first`; the form of an entry may depend on
-- the one before it
unfoldable pub entries : {X : Type 0} → (Option X → Fields → Option X) → ℕ → ℕ → Option X → At
    → Read (List X)
entries form first zero before at = Ok ([], at)
entries form first (suc count) before at = do
  x ← next_line (form before) (Length first) at
  xs ← entries form first count (Some x.0) x.1
  Ok (x.0 ∷ xs.0, xs.1)

-- the first line of a section, which may end the text only if another section comes before it
abbrev pub first_line : {X : Type 0} → (Fields → Option X) → At → Read X
first_line form at = next_line form (Length at.read) at

-- a section: its first line counts the entries
unfoldable pub section : {X : Type 0} → List ℕ → (Option X → Fields → Option X) → At → Read (List X)
section word form at = do
  count ← first_line (count_of word) at
  entries form (at.read + 1) count.0 None count.1

-- lines the form of which does not depend on the line before
abbrev pub any_order : {X : Type 0} → (Fields → Option X) → Option X → Fields → Option X
any_order form before fields = form fields

abbrev pub may_follow : Option SidedOmitted → SidedOmitted → Bool
may_follow None o = true
may_follow (Some before) o = omitted_before before o

abbrev pub if_may_follow : Option SidedOmitted → Option SidedOmitted → Option SidedOmitted
if_may_follow before None = None
if_may_follow before (Some o) = if may_follow before o then Some o else None

abbrev pub ordered_omitted : Option SidedOmitted → Fields → Option SidedOmitted
ordered_omitted before fields = if_may_follow before (omitted_of fields)

abbrev pub on_side : Side → SideOmitted → Omitted → SideOmitted
on_side side.Left rest o = record { left = o ∷ rest.left; right = rest.right }
on_side side.Right rest o = record { left = rest.left; right = o ∷ rest.right }

-- those of LEFT, and those of RIGHT
abbrev pub by_side : List SidedOmitted → SideOmitted
by_side [] = record { left = []; right = [] }
by_side (o ∷ os) = on_side o.side (by_side os) o.omitted

unfoldable pub rows : ℕ → ℕ → Option ℕ → At → Read (List Removed)
rows first zero before at = Ok ([], at)
rows first (suc count) before at = do
  row ← next_line (row_of before) (Length first) at
  steps ← entries (any_order step_of) first row.0.1 None row.1
  more ← rows first count (Some row.0.0) steps.1
  Ok (record { row = row.0.0; steps = steps.0 } ∷ more.0, more.1)

unfoldable pub removed_rows : At → Read (List Removed)
removed_rows at = do
  count ← first_line (count_of (codes "removed")) at
  rows (at.read + 1) count.0 None count.1

-- a list and the place after it
abbrev pub before_rest : {X : Type 0} → X → (List X × At) → (List X × At)
before_rest x rest = (x ∷ rest.0, rest.1)

abbrev pub run_on : {X : Type 0} → Option X → (List X × At) → ℕ → List Fields → (List X × At)
run_on None rest read lines = ([], record { read = read; lines = lines })
run_on (Some x) rest read lines = before_rest x rest

-- lines of classes, or of properties, from a place on, up to the first line that is none
abbrev pub run_of : {X : Type 0} → (ℕ → Fields → Option X) → ℕ → ℕ → List Fields → (List X × At)
run_of form place read [] = ([], record { read = read; lines = [] })
run_of form place read (fields ∷ lines) =
    run_on (form place fields) (run_of form (place + 1) (read + 1) lines) read (fields ∷ lines)

abbrev pub run_at : {X : Type 0} → (ℕ → Fields → Option X) → At → (List X × At)
run_at form at = run_of form 0 at.read at.lines

abbrev pub with_journal : List Removed → ℕ → List (List ℕ) → List (List (ℕ × ℕ)) → At → Read Body
with_journal removed size classes roles at = do
  journal ← section (codes "journal") (any_order entry_of) at
  Ok (
    body.Diagnosis removed (record { size = size; classes = classes; roles = roles })
        (record { entries = journal.0; room = 0 }),
    journal.1,
  )

abbrev pub with_roles : List Removed → ℕ → List (List ℕ) → (List (List (ℕ × ℕ)) × At) → Read Body
with_roles removed size classes roles = with_journal removed size classes roles.0 roles.1

abbrev pub with_classes : List Removed → ℕ → (List (List ℕ) × At) → Read Body
with_classes removed size classes = with_roles removed size classes.0 (run_at pairs_of classes.1)

unfoldable pub diagnosis : At → Read Body
diagnosis at = do
  removed ← removed_rows at
  size ← first_line size_of removed.1
  with_classes removed.0 size.0 (run_at members_of size.1)

unfoldable pub refusal : At → Read Body
refusal at = do
  steps ← section (codes "steps") (any_order step_of) at
  Ok (body.Refusal steps.0, steps.1)

abbrev pub body_by : Kind → At → Read Body
body_by kind.Diagnosis at = diagnosis at
body_by (kind.Refusal p) at = refusal at

-- nothing follows the end
abbrev pub no_more : {X : Type 0} → X → ℕ → List Fields → Result X EvidenceFault
no_more x read [] = Ok x
no_more x read (fields ∷ lines) = Err (Line (read + 1))

abbrev pub ended : Evidence → At → Result Evidence EvidenceFault
ended e at = first_line end_of at >>= λ end. no_more e end.1.read end.1.lines

-- the lines of a text
unfoldable pub lines_read : At → Result Evidence EvidenceFault
lines_read at = do
  version ← next_line version_of (Line 1) at
  kind ← first_line kind_of version.1
  omitted ← section (codes "omitted") ordered_omitted kind.1
  nodes ← section (codes "nodes") (any_order node_of) omitted.1
  roles ← section (codes "roles") (any_order role_of) nodes.1
  body ← body_by kind.0 roles.1
  ended (record {
    kind = kind.0;
    omitted = by_side omitted.0;
    nodes = nodes.0;
    roles = roles.0;
    body = body.0;
  }) body.1

abbrev pub first_of : List (List ℕ) → List ℕ
first_of [] = []
first_of (piece ∷ pieces) = piece

-- what is before the first line feed, or all of the text
abbrev pub first_piece : List ℕ → List ℕ
first_piece text = first_of (slice_split is_line_feed text)

-- the text is read as this value, or has this first fault
unfoldable pub text_read : List ℕ → Result Evidence EvidenceFault
text_read text =
    if is_other_version (fields_of (first_piece text)) then Err Version else
    lines_read (record { read = 0; lines = lines_of text })

-- what a call answers is what reading gives, seen by the view, unless memory ran out
abbrev pub FailsRead : {Y : Type 0} → EvidenceFault → Result Y EvidenceFault → Type 0
FailsRead OutOfMemory read = ⊤
FailsRead Version read = read ≡ Err Version
FailsRead (Line number) read = read ≡ Err (Line number)
FailsRead (Length number) read = read ≡ Err (Length number)

abbrev pub GivesRead : {X Y : Type 0} → (X → Y) → Result X EvidenceFault → Result Y EvidenceFault
    → Type 0
GivesRead view (Ok x) read = read ≡ Ok (view x)
GivesRead view (Err fault) read = FailsRead fault read
