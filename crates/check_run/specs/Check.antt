-- What a check answers, and how the output stands after it.
use Rattle.std.specs.Prelude.{◌≡◌, ◌≢◌, ◌⊎◌, ℕ, List, Option, None, Some, IfSome, ⊤}
use Rattle.text_names.specs.declared.limits.Limits.{Limits}
use Rattle.text_names.specs.declared.place.Place.{Place}
use Rattle.io_edge.specs.Outside.{SinkSeen, ReadsRose, PutsRose, HasGotFront}
use Rattle.io_edge.specs.declared.outside.Role.{Role}
use Rattle.io_edge.specs.declared.outside.Target.{Target}
use Rattle.io_edge.specs.declared.outside.Target.TheVariants as target
use Rattle.el_logic.specs.declared.types.Side.{Side}
use Rattle.ofn_heads.specs.declared.outside.HeadId.{HeadId}
use Rattle.ofn_axiom.specs.declared.fault.DocKind.{DocKind}
use Rattle.sssom_rows.specs.declared.fault.TableFault.{TableFault}
use Rattle.case_load.specs.declared.fault.LimitKind.{LimitKind}
use Rattle.case_load.specs.declared.fault.LoadFault.{LoadFault}
use Rattle.case_load.specs.declared.fault.LoadFault.TheVariants as load
use Rattle.case_load.specs.declared.texts.Loaded.{Loaded}
use Rattle.status_lines.specs.Runs.{Run, IfTold, HasGot, IsLinePut}
use Rattle.check_items.specs.declared.item.BadItem.{BadItem}
use Rattle.command_words.specs.declared.types.CheckWords.{CheckWords}
use Rattle.check_run.specs.declared.reading.CheckTexts.{CheckTexts}
use Rattle.check_run.specs.declared.status.CheckStatus.{CheckStatus}
use Rattle.check_run.specs.Files.{IsAsked, IsRead, IsFirstFaultFor, name_in}
use Rattle.check_run.specs.Lines.{answer_line, verdict_line}
use Rattle.check_run.specs.Verdicts.{IsBadFor, IsShownFor, IsValidFor, IsVerdictOn}

-- the texts of the files, and the case that they make
pub record Checked (run : Run) (command : CheckWords) (limits : Limits) : Type 0 where
  pub texts : CheckTexts
  pub loaded : Loaded
  pub read : IsRead run.folder command limits texts loaded

-- the line of a verdict
abbrev pub line_in : {run : Run} {command : CheckWords} {limits : Limits}
    → Checked run command limits → Option BadItem → List ℕ
line_in c verdict = verdict_line c.loaded.names.classes.names verdict

-- every item holds, and the output has got the line
abbrev pub IsYes : Run → CheckWords → Limits → Type 0
IsYes run command limits = (c : Checked run command limits)
    × IsShownFor command c.loaded c.texts × HasGot run (line_in c None)

-- this is the first item that fails, and the output has got the line
abbrev pub IsNo : Run → CheckWords → Limits → BadItem → Type 0
IsNo run command limits item = (c : Checked run command limits)
    × IsBadFor command c.loaded c.texts item × HasGot run (line_in c (Some item))

-- the output has got the first bytes of the verdict's line
abbrev pub IsVerdictShort : Run → CheckWords → Limits → Type 0
IsVerdictShort run command limits =
    (c : Checked run command limits) × (verdict : Option BadItem)
    × IsVerdictOn command c.loaded c.texts verdict
    × IfSome run.output.got (λ got. HasGotFront got run.output_after.got (line_in c verdict))

-- the first fault of the files
abbrev pub IsCheckFault : Run → CheckWords → Limits → LoadFault → Type 0
IsCheckFault run command limits fault =
    IsFirstFaultFor run.folder run.folder_after command limits fault

-- no read and no put failed
pub record HasNoFault (run : Run) (command : CheckWords) : Type 0 where
  pub reads : (file : Role) → IsAsked command file
      → ¬ (ReadsRose run.folder run.folder_after (name_in command file))
  pub put : ¬ (PutsRose run.output run.output_after)

-- an answer, or that memory ran out in its place
abbrev pub IsOrMemory : CheckStatus → CheckStatus → Type 0
IsOrMemory answer result = (result ≡ answer) ⊎ (result ≡ CheckStatus.OutOfMemory)

-- an answer that comes after the reads, or a fault of a read, or that memory ran out, in its place
abbrev pub IsOrReadStop : CheckStatus → CheckStatus → Type 0
IsOrReadStop answer result =
    (result ≡ answer) ⊎ (((file : Role) × (result ≡ CheckStatus.ReadFault file))
    ⊎ (result ≡ CheckStatus.OutOfMemory))

-- some item fails, or memory ran out
abbrev pub IsNoOrMemory : CheckStatus → Type 0
IsNoOrMemory result = ((item : BadItem) × (result ≡ CheckStatus.No item))
    ⊎ (result ≡ CheckStatus.OutOfMemory)

-- a verdict, or memory ran out
abbrev pub IsVerdictOrMemory : CheckStatus → Type 0
IsVerdictOrMemory result = (result ≡ CheckStatus.Yes) ⊎ IsNoOrMemory result

-- how the output stands after an answer that is no verdict; if memory ran out, the line may have
-- been put in part
abbrev pub AnswerStands : SinkSeen → SinkSeen → CheckStatus → Type 0
AnswerStands old new CheckStatus.Yes = ⊤
AnswerStands old new (CheckStatus.No item) = ⊤
AnswerStands old new (CheckStatus.WriteFault target) = ⊤
AnswerStands old new CheckStatus.OutOfMemory =
    IfSome old.got (λ got. HasGotFront got new.got (answer_line CheckStatus.OutOfMemory))
AnswerStands old new answer = IsLinePut old new (answer_line answer)

-- all that is known of a check, by its answer
pub record IsChecked (run : Run) (command : CheckWords) (limits : Limits) (answer : CheckStatus)
    : Type 0 where
  -- EVIDENCE shows that OUT is the table without exactly the rows that are accused, or that the
  -- part which it names is incoherent
  pub yes : answer ≡ CheckStatus.Yes → IsYes run command limits
  -- if every item holds and nothing failed, the answer is yes
  pub yes_answer : IfTold run (λ files. HasNoFault run command
      → (c : Checked run command limits) → IsValidFor command c.loaded c.texts
      → IsOrMemory CheckStatus.Yes answer)
  -- this is the first item that fails
  pub no : (item : BadItem) → answer ≡ CheckStatus.No item → IsNo run command limits item
  -- if an item fails and nothing failed else, the answer is no
  pub no_answer : IfTold run (λ files. HasNoFault run command
      → (c : Checked run command limits) (item : BadItem)
      → IsBadFor command c.loaded c.texts item → IsNoOrMemory answer)
  -- if nothing failed, and the files are read and make a case, the answer is a verdict
  pub complete : IfTold run (λ files. HasNoFault run command
      → Checked run command limits → IsVerdictOrMemory answer)
  -- the arguments are those of the program
  pub words : answer ≢ CheckStatus.Words
  -- a file could not be read, after those before it were read
  pub read_fault : (file : Role) → answer ≡ CheckStatus.ReadFault file
      → IsCheckFault run command limits (load.ReadFault file)
  -- an ontology is no document, and this is the first fault of the files
  pub syntax : (side : Side) (place : Place) (kind : DocKind)
      → answer ≡ CheckStatus.Syntax side place kind
      → IsCheckFault run command limits (load.Syntax side place kind)
  pub syntax_answer : (side : Side) (place : Place) (kind : DocKind)
      → IfTold run (λ files. IsCheckFault run command limits (load.Syntax side place kind)
      → IsOrReadStop (CheckStatus.Syntax side place kind) answer)
  -- an ontology has something outside the profile, and this is the first fault of the files
  pub profile : (side : Side) (place : Place) (head : HeadId)
      → answer ≡ CheckStatus.Profile side place head
      → IsCheckFault run command limits (load.Profile side place head)
  pub profile_answer : (side : Side) (place : Place) (head : HeadId)
      → IfTold run (λ files. IsCheckFault run command limits (load.Profile side place head)
      → IsOrReadStop (CheckStatus.Profile side place head) answer)
  -- the table is no table, and this is the first fault of the files
  pub table : (fault : TableFault) → answer ≡ CheckStatus.Table fault
      → IsCheckFault run command limits (load.Table fault)
  pub table_answer : (fault : TableFault)
      → IfTold run (λ files. IsCheckFault run command limits (load.Table fault)
      → IsOrReadStop (CheckStatus.Table fault) answer)
  -- a file or its content is larger than a limit, and this is the first fault of the files
  pub limit : (kind : LimitKind) → answer ≡ CheckStatus.Limit kind
      → IsCheckFault run command limits (load.Limit kind)
  pub limit_answer : (kind : LimitKind)
      → IfTold run (λ files. IsCheckFault run command limits (load.Limit kind)
      → IsOrReadStop (CheckStatus.Limit kind) answer)
  -- only the output can be what was not written, and it failed while the verdict was put
  pub write_fault : (what : Target) → answer ≡ CheckStatus.WriteFault what
      → (what ≡ target.Output) × PutsRose run.output run.output_after
      × IsVerdictShort run command limits
