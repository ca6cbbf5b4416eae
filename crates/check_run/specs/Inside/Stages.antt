-- What the stages of a check leave.
use Rattle.std.specs.Prelude.{◌≡◌, ℕ, List, ◌++◌, Option, Some, None, IfSome, MatchOption, string_bytes, ⊤}
use Rattle.text_names.specs.declared.limits.Limits.{Limits}
use Rattle.io_edge.specs.Outside.{FolderSeen, SinkSeen, PutsRose, HasGotFront}
use Rattle.io_edge.specs.declared.outside.Target.TheVariants as target
use Rattle.ofn_axiom.specs.declared.types.Mode.{Mode}
use Rattle.case_load.specs.Loads.{IsLoaded}
use Rattle.case_load.specs.declared.texts.Loaded.{Loaded}
use Rattle.check_items.specs.declared.item.BadItem.{BadItem}
use Rattle.command_words.specs.declared.types.CheckWords.{CheckWords}
use Rattle.check_run.specs.declared.reading.CheckTexts.{CheckTexts}
use Rattle.check_run.specs.declared.verdict.Verdict.{Verdict}
use Rattle.check_run.specs.declared.status.CheckStatus.{CheckStatus}
use Rattle.case_load.specs.declared.fault.LoadFault.TheVariants as load
use Rattle.status_lines.specs.Runs.{Run}
use Rattle.check_run.specs.Check.{IsCheckFault, IsNo, IsVerdictShort, IsYes}
use Rattle.check_run.specs.Files.{inputs_of, IsRead}
use Rattle.check_run.specs.Lines.{answer_line, verdict_line}
use Rattle.check_run.specs.Verdicts.{IsBadRefused, IsBadRun, IsValidRefused, IsValidRun, IsVerdictOn}

-- the case was made of these texts
abbrev pub IsCaseOfTexts : CheckTexts → Loaded → Type 0
IsCaseOfTexts texts loaded =
    (mode : Mode) × (limits : Limits) × IsLoaded (inputs_of texts) mode limits loaded

-- what the evidence of a repair is answered, and that of a refusal
abbrev pub IsRunAnswer : Loaded → CheckTexts → Option BadItem → Type 0
IsRunAnswer loaded texts answer =
    MatchOption answer (IsValidRun loaded texts) (IsBadRun loaded texts)

abbrev pub IsRefusedAnswer : Loaded → CheckTexts → Option BadItem → Type 0
IsRefusedAnswer loaded texts answer =
    MatchOption answer (IsValidRefused loaded texts) (IsBadRefused loaded texts)

-- the files are read, and this is the verdict with its line
pub record IsJudged (folder : FolderSeen) (command : CheckWords) (limits : Limits)
    (verdict : Verdict) : Type 0 where
  pub texts : CheckTexts
  pub loaded : Loaded
  pub read : IsRead folder command limits texts loaded
  pub item : IsVerdictOn command loaded texts verdict.item
  pub line : string_bytes verdict.line ≡ verdict_line loaded.names.classes.names verdict.item

-- how a verdict is told: its line was put, or put in part, or memory ran out
abbrev pub IsTold : SinkSeen → SinkSeen → Option BadItem → List ℕ → CheckStatus → Type 0
IsTold old new verdict line CheckStatus.Yes =
    (verdict ≡ None) × IfSome old.got (λ got. new.got ≡ Some (got ++ line))
IsTold old new verdict line (CheckStatus.No item) =
    (verdict ≡ Some item) × IfSome old.got (λ got. new.got ≡ Some (got ++ line))
IsTold old new verdict line (CheckStatus.WriteFault target.Output) =
    PutsRose old new × IfSome old.got (λ got. HasGotFront got new.got line)
IsTold old new verdict line CheckStatus.OutOfMemory =
    IfSome old.got (λ got. HasGotFront got new.got (answer_line CheckStatus.OutOfMemory))
IsTold old new verdict line _ = ⊥

-- the cause of an answer
abbrev pub IsCause : Run → CheckWords → Limits → CheckStatus → Type 0
IsCause run command limits CheckStatus.Yes = IsYes run command limits
IsCause run command limits (CheckStatus.No item) = IsNo run command limits item
IsCause run command limits CheckStatus.Words = ⊥
IsCause run command limits (CheckStatus.ReadFault file) =
    IsCheckFault run command limits (load.ReadFault file)
IsCause run command limits (CheckStatus.Syntax side place kind) =
    IsCheckFault run command limits (load.Syntax side place kind)
IsCause run command limits (CheckStatus.Profile side place head) =
    IsCheckFault run command limits (load.Profile side place head)
IsCause run command limits (CheckStatus.Table fault) =
    IsCheckFault run command limits (load.Table fault)
IsCause run command limits (CheckStatus.Limit kind) =
    IsCheckFault run command limits (load.Limit kind)
IsCause run command limits (CheckStatus.WriteFault what) =
    (what ≡ target.Output) × PutsRose run.output run.output_after
    × IsVerdictShort run command limits
IsCause run command limits CheckStatus.OutOfMemory = ⊤
