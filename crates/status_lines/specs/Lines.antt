-- The exit status, and the printed line, of each answer.
use Rattle.std.specs.Prelude.{ℕ, ◌-◌, List, [], ◌++◌, codes, decimal}
use Rattle.text_names.specs.declared.place.Place.{Place}
use Rattle.el_logic.specs.declared.types.Part.{Part}
use Rattle.el_logic.specs.declared.types.Side.{Side}
use Rattle.io_edge.specs.declared.outside.Role.{Role}
use Rattle.io_edge.specs.declared.outside.Target.TheVariants as Target
use Rattle.ofn_heads.specs.Heads.{name_of}
use Rattle.ofn_axiom.specs.declared.fault.DocKind.{DocKind}
use Rattle.sssom_rows.specs.Columns.{column_name}
use Rattle.sssom_rows.specs.declared.fault.TableFault.{TableFault}
use Rattle.case_load.specs.declared.fault.LimitKind.{LimitKind}
use Rattle.case_load.specs.declared.fault.LoadFault.{LoadFault}
use Rattle.status_lines.specs.declared.speaker.Speaker.{Speaker}
use Rattle.status_lines.specs.declared.status.Status.{Status}

abbrev pub status_number : Status → ℕ
status_number Status.Done = 0
status_number Status.Words = 2
status_number (Status.Syntax side place kind) = 3
status_number (Status.Table fault) = 3
status_number (Status.Profile side place head) = 4
status_number (Status.Incoherent part class) = 5
status_number (Status.Limit kind) = 6
status_number (Status.ReadFault file) = 7
status_number (Status.WriteFault target) = 8
status_number Status.OutOfMemory = 9

-- the answer of a run whose files have this fault
abbrev pub status_of : LoadFault → Status
status_of (LoadFault.Syntax side place kind) = Status.Syntax side place kind
status_of (LoadFault.Table fault) = Status.Table fault
status_of (LoadFault.Profile side place head) = Status.Profile side place head
status_of (LoadFault.Limit kind) = Status.Limit kind
status_of (LoadFault.ReadFault file) = Status.ReadFault file
status_of LoadFault.OutOfMemory = Status.OutOfMemory

abbrev pub side_text : Side → List ℕ
side_text Side.Left = codes "LEFT"
side_text Side.Right = codes "RIGHT"

abbrev pub part_text : Part → List ℕ
part_text Part.Left = codes "LEFT"
part_text Part.Right = codes "RIGHT"
part_text Part.Both = codes "LEFT and RIGHT"

abbrev pub role_text : Role → List ℕ
role_text Role.Left = codes "LEFT"
role_text Role.Right = codes "RIGHT"
role_text Role.Map = codes "MAP"
role_text Role.Out = codes "OUT"
role_text Role.Evidence = codes "EVIDENCE"

abbrev pub kind_text : DocKind → List ℕ
kind_text DocKind.NotUtf8 = codes "not UTF-8"
kind_text DocKind.NoToken = codes "no token begins here"
kind_text DocKind.Unopened = codes "closing bracket without partner"
kind_text DocKind.Unclosed = codes "opening bracket without partner"
kind_text DocKind.NoOntology = codes "no Ontology term"
kind_text DocKind.Head = codes "unexpected item"
kind_text DocKind.Shape = codes "wrong items for this head"
kind_text DocKind.PrefixUnknown = codes "unknown prefix"
kind_text DocKind.PrefixClash = codes "prefix declared with another IRI"

abbrev pub fault_text : TableFault → List ℕ
fault_text (TableFault.MapForm line) = codes "line " ++ (decimal line ++ codes ": curie_map form")
fault_text (TableFault.Again line) = codes "line " ++ (decimal line ++ codes ": prefix again")
fault_text TableFault.NoColumns = codes "no columns"
fault_text (TableFault.NotUtf8 row) = codes "row " ++ (decimal row ++ codes ": not UTF-8")
fault_text (TableFault.ColumnMissing column) = codes "no column " ++ column_name column
fault_text (TableFault.ColumnTwice column) =
    codes "column " ++ (column_name column ++ codes " twice")
fault_text TableFault.TooManyRows = codes "too many rows"
fault_text (TableFault.Ragged row) = codes "row " ++ (decimal row ++ codes ": number of fields")
fault_text (TableFault.Curie row column) =
    codes "row " ++ (decimal row ++ (codes ": " ++ column_name column))
fault_text (TableFault.Confidence row) = codes "row " ++ (decimal row ++ codes ": confidence")
fault_text TableFault.OutOfMemory = codes "out of memory"

abbrev pub limit_text : LimitKind → List ℕ
limit_text (LimitKind.Bytes file) = role_text file ++ codes " bytes"
limit_text (LimitKind.Depth side) = side_text side ++ codes " depth"
limit_text (LimitKind.Classes side) = side_text side ++ codes " classes"
limit_text (LimitKind.Properties side) = side_text side ++ codes " properties"
limit_text LimitKind.Rows = codes "rows"
limit_text LimitKind.Nodes = codes "nodes"
limit_text LimitKind.Roles = codes "roles"

-- a place in an ontology, as its side, its line and its column
abbrev pub place_text : Side → Place → List ℕ
place_text side place =
    side_text side ++ (codes ":" ++ (decimal place.line ++ (codes ":" ++ decimal place.column)))

-- what a program says of files with a fault
abbrev pub load_text : LoadFault → List ℕ
load_text (LoadFault.Syntax side place kind) =
    place_text side place ++ (codes ": " ++ kind_text kind)
load_text (LoadFault.Table fault) = codes "MAP: " ++ fault_text fault
load_text (LoadFault.Profile side place head) =
    place_text side place ++ (codes ": not in the profile: " ++ name_of head)
load_text (LoadFault.Limit kind) = codes "limit: " ++ limit_text kind
load_text (LoadFault.ReadFault file) = codes "cannot read " ++ role_text file
load_text LoadFault.OutOfMemory = codes "out of memory"

-- the name of a program, as its lines begin
abbrev pub speaker_text : Speaker → List ℕ
speaker_text Speaker.Alod = codes "alod"
speaker_text Speaker.Alodcheck = codes "alodcheck"

-- a line of a program: its name, and what it says
abbrev pub line_of : Speaker → List ℕ → List ℕ
line_of speaker text = speaker_text speaker ++ (codes ": " ++ (text ++ codes "\n"))

-- the line of a program of files with a fault
abbrev pub load_line : Speaker → LoadFault → List ℕ
load_line speaker fault = line_of speaker (load_text fault)

-- the line of words that are no command
abbrev pub usage_line : List ℕ
usage_line =
    codes "alod: usage: alod [--workers N] [--el-part] LEFT RIGHT MAP OUT EVIDENCE, or "
    ++ codes "alod --made N [--workers N]\n"

-- the line of a refusal; a run that is done prints its summary in place of it, and a fault of the
-- output no line
abbrev pub refusal_line : Status → List ℕ
refusal_line Status.Done = []
refusal_line Status.Words = usage_line
refusal_line (Status.Syntax side place kind) =
    load_line Speaker.Alod (LoadFault.Syntax side place kind)
refusal_line (Status.Table fault) = load_line Speaker.Alod (LoadFault.Table fault)
refusal_line (Status.Profile side place head) =
    load_line Speaker.Alod (LoadFault.Profile side place head)
refusal_line (Status.Incoherent part class) =
    codes "alod: " ++ (part_text part ++ (codes " incoherent: <" ++ (class ++ codes ">\n")))
refusal_line (Status.Limit kind) = load_line Speaker.Alod (LoadFault.Limit kind)
refusal_line (Status.ReadFault file) = load_line Speaker.Alod (LoadFault.ReadFault file)
refusal_line (Status.WriteFault Target.Out) = codes "alod: cannot write OUT\n"
refusal_line (Status.WriteFault Target.Evidence) = codes "alod: cannot write EVIDENCE\n"
refusal_line (Status.WriteFault Target.Output) = []
refusal_line Status.OutOfMemory = load_line Speaker.Alod LoadFault.OutOfMemory

-- the summary: how many rows there are, are kept, are removed and are inert, and how many axioms
-- were omitted
abbrev pub summary_text : (rows kept inert omitted : ℕ) → List ℕ
summary_text rows kept inert omitted =
    codes "alod: rows " ++ (decimal rows ++ (codes " kept " ++ (decimal kept
    ++ (codes " removed " ++ (decimal (rows - kept) ++ (codes " inert " ++ (decimal inert
    ++ (codes " omitted " ++ (decimal omitted ++ codes "\n")))))))))
