-- The exit status, and the printed line, of each answer.
use Rattle.std.specs.Prelude.{ℕ, List, [], ◌∷◌, ◌++◌, codes, decimal, slice_index_or, Option, Some, None}
use Rattle.fact_table.specs.declared.types.Source.{Source}
use Rattle.case_load.specs.declared.fault.LoadFault.{LoadFault}
use Rattle.status_lines.specs.declared.speaker.Speaker.{Speaker}
use Rattle.status_lines.specs.Lines.{load_line}
use Rattle.check_items.specs.declared.item.BadItem.{BadItem}
use Rattle.check_run.specs.declared.status.CheckStatus.{CheckStatus}

abbrev pub check_number : CheckStatus → ℕ
check_number CheckStatus.Yes = 0
check_number (CheckStatus.No item) = 1
check_number CheckStatus.Words = 2
check_number (CheckStatus.Syntax side place kind) = 3
check_number (CheckStatus.Table fault) = 3
check_number (CheckStatus.Profile side place head) = 4
check_number (CheckStatus.Limit kind) = 6
check_number (CheckStatus.ReadFault file) = 7
check_number (CheckStatus.WriteFault target) = 8
check_number CheckStatus.OutOfMemory = 9

-- the answer of a check whose files have this fault
abbrev pub check_status_of : LoadFault → CheckStatus
check_status_of (LoadFault.Syntax side place kind) = CheckStatus.Syntax side place kind
check_status_of (LoadFault.Table fault) = CheckStatus.Table fault
check_status_of (LoadFault.Profile side place head) = CheckStatus.Profile side place head
check_status_of (LoadFault.Limit kind) = CheckStatus.Limit kind
check_status_of (LoadFault.ReadFault file) = CheckStatus.ReadFault file
check_status_of LoadFault.OutOfMemory = CheckStatus.OutOfMemory

-- the answer of a check with this verdict
abbrev pub verdict_status : Option BadItem → CheckStatus
verdict_status None = CheckStatus.Yes
verdict_status (Some item) = CheckStatus.No item

-- ---- the verdict's line

-- the IRIs of the classes by their nodes
abbrev pub class_iris : List (List ℕ) → List (List ℕ)
class_iris names =
    codes "http://www.w3.org/2002/07/owl#Thing" ∷ codes "http://www.w3.org/2002/07/owl#Nothing"
    ∷ names

abbrev pub source_text : Source → List ℕ
source_text (Source.Left number) = codes "axiom left " ++ decimal number
source_text (Source.Right number) = codes "axiom right " ++ decimal number
source_text (Source.Row row number) =
    codes "axiom row " ++ (decimal row ++ (codes " " ++ decimal number))
source_text Source.Nothing = codes "axiom"

-- an item that fails; classes have these names
abbrev pub item_text : List (List ℕ) → BadItem → List ℕ
item_text names BadItem.Version = codes "evidence version"
item_text names (BadItem.Line number) = codes "evidence line " ++ decimal number
item_text names (BadItem.Length number) =
    codes "evidence ends in the section of line " ++ decimal number
item_text names BadItem.Kind = codes "evidence kind"
item_text names BadItem.Omitted = codes "omitted axioms"
item_text names BadItem.Nodes = codes "nodes"
item_text names BadItem.Roles = codes "roles"
item_text names (BadItem.Removed row) = codes "no row " ++ decimal row
item_text names BadItem.Output = codes "OUT is not the repaired table"
item_text names (BadItem.Step row number) =
    codes "row " ++ (decimal row ++ (codes " step " ++ decimal number))
item_text names (BadItem.Goal row) = codes "row " ++ (decimal row ++ codes " shows no empty class")
item_text names BadItem.Form = codes "model form"
item_text names (BadItem.Axiom source) = source_text source
item_text names (BadItem.Class node) =
    codes "class <" ++ (slice_index_or (class_iris names) node [] ++ codes "> has no member")
item_text names (BadItem.Journal number) = codes "journal entry " ++ decimal number
item_text names BadItem.End = codes "journal end"

abbrev pub verdict_line : List (List ℕ) → Option BadItem → List ℕ
verdict_line names None = codes "alodcheck: yes\n"
verdict_line names (Some item) = codes "alodcheck: no: " ++ (item_text names item ++ codes "\n")

-- ---- the other lines

abbrev pub usage_line : List ℕ
usage_line =
    codes "alodcheck: usage: alodcheck [--el-part] LEFT RIGHT MAP OUT EVIDENCE, or "
    ++ codes "alodcheck --refused [--el-part] LEFT RIGHT EVIDENCE\n"

-- the line of an answer that is no verdict; a fault of the output has none
abbrev pub answer_line : CheckStatus → List ℕ
answer_line CheckStatus.Words = usage_line
answer_line (CheckStatus.Syntax side place kind) =
    load_line Speaker.Alodcheck (LoadFault.Syntax side place kind)
answer_line (CheckStatus.Table fault) = load_line Speaker.Alodcheck (LoadFault.Table fault)
answer_line (CheckStatus.Profile side place head) =
    load_line Speaker.Alodcheck (LoadFault.Profile side place head)
answer_line (CheckStatus.Limit kind) = load_line Speaker.Alodcheck (LoadFault.Limit kind)
answer_line (CheckStatus.ReadFault file) = load_line Speaker.Alodcheck (LoadFault.ReadFault file)
answer_line CheckStatus.OutOfMemory = load_line Speaker.Alodcheck LoadFault.OutOfMemory
answer_line _ = []
