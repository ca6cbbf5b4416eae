-- What a check answers, from the cause of its answer.
use Rattle.std.proofs.Common.{◌≡◌, ◌⊎◌, ◌++◌, List, ℕ, inl, inr, refl, sym, ap, subst, ⊎_elim}
use Rattle.std.specs.Prelude.{Option, Some, None, IfSome, string_bytes}
use Rattle.byte_words.specs.Faults.{OrOutOfMemory}
use Rattle.text_names.specs.declared.limits.Limits.{Limits}
use Rattle.io_edge.specs.Outside.{Files}
use Rattle.io_edge.specs.declared.outside.Role.{Role}
use Rattle.io_edge.specs.declared.outside.Role.TheVariants as role
use Rattle.io_edge.specs.declared.outside.Target.TheVariants as target
use Rattle.case_load.specs.Faults.{load_ran_out}
use Rattle.case_load.specs.declared.fault.LoadFault.{LoadFault}
use Rattle.case_load.specs.declared.fault.LoadFault.TheVariants as load
use Rattle.check_items.specs.declared.item.BadItem.{BadItem}
use Rattle.status_lines.specs.Runs.{Run, IfTold}
use Rattle.command_words.specs.declared.types.CheckWords.{CheckWords}
use Rattle.command_words.specs.declared.types.CheckWords.TheVariants as check
use Rattle.check_run.specs.declared.status.CheckStatus.{CheckStatus}
use Rattle.check_run.specs.declared.status.CheckStatus.TheVariants as answer
use Rattle.check_run.specs.declared.verdict.Verdict.{Verdict}
use Rattle.check_run.specs.Files.{IsAsked, IsReachedFor}
use Rattle.check_run.specs.Lines.{check_status_of, verdict_line}
use Rattle.check_run.specs.Verdicts.{IsBadFor, IsValidFor, IsVerdictOn}
use Rattle.check_run.specs.Check.{Checked, HasNoFault, IsCheckFault, IsChecked, IsNoOrMemory, IsOrMemory, IsOrReadStop, IsVerdictOrMemory}
use Rattle.check_run.specs.Inside.Stages.{IsCause, IsJudged, IsTold}
use Rattle.check_run.proofs.FaultLaws.{OneAnswer, IsNoRead, case_or_fault, one_check_fault, same_case, same_reading}
use Rattle.check_run.proofs.OneVerdict.{NoItemFails, OneStepsAnswer, shown_is_valid, valid_or_bad}
use Rattle.check_run.proofs.SameLaws.{same_valid}

-- what is known if the files are told
told : (o : Option Files) (P : Files → Type 0) → ((files : Files) → o ≡ Some files → P files) → IfSome o P
told None P h = tt
told (Some files) P h = h files refl

-- a file that is reached is one of the command
asked : (run : Run) (command : CheckWords) (most : ℕ) (file : Role) → IsReachedFor run.folder command most file → IsAsked command file
asked run (check.Repair el_part names) most file h = tt
asked run (check.Refusal el_part left right evidence) most role.Left h = tt
asked run (check.Refusal el_part left right evidence) most role.Right h = tt
asked run (check.Refusal el_part left right evidence) most role.Evidence h = tt
asked run (check.Refusal el_part left right evidence) most role.Map h = absurd h
asked run (check.Refusal el_part left right evidence) most role.Out h = absurd h

module _ (laws : OneAnswer) (no_item : NoItemFails) (steps_law : OneStepsAnswer) (run : Run) (command : CheckWords) (limits : Limits) where
  module _ (files : Files) (are : run.folder.files ≡ Some files) where
    -- files that make a case have no fault
    no_fault : Checked run command limits → (fault : LoadFault) → IsNoRead fault → IsCheckFault run command limits fault → ⊥
    no_fault c fault n h = case_or_fault laws run.folder run.folder_after files are command limits c.texts c.loaded fault c.read n h

    -- evidence is not both valid and not
    never_both : (one other : Checked run command limits) (item : BadItem) → IsValidFor command one.loaded one.texts → IsBadFor command other.loaded other.texts item → ⊥
    never_both one other item v h =
        let texts = same_reading laws run.folder run.folder_after files are command limits one.texts other.texts one.loaded other.loaded one.read other.read in
        let case = same_case laws run.folder run.folder_after files are command limits one.texts other.texts one.loaded other.loaded one.read other.read in
        valid_or_bad steps_law no_item command other.loaded other.texts item
        (same_valid one.loaded other.loaded case command other.texts (subst (IsValidFor command one.loaded) texts v)) h

    -- where the files have a fault, a check says so, unless a read failed or memory ran out
    fault_answer : (fault : LoadFault) → IsNoRead fault → IsCheckFault run command limits fault → (s : CheckStatus) → IsCause run command limits s
        → IsOrReadStop (check_status_of fault) s
    fault_answer fault n f s h = by s h
      where
        same : (other : LoadFault) → IsNoRead other → IsCheckFault run command limits other → IsOrReadStop (check_status_of fault) (check_status_of other)
        same other m g = inl (ap check_status_of (one_check_fault laws run.folder run.folder_after files are command limits other fault m n g f))

        by : (s : CheckStatus) → IsCause run command limits s → IsOrReadStop (check_status_of fault) s
        by answer.Yes h = absurd (no_fault h.0 fault n f)
        by (answer.No item) h = absurd (no_fault h.0 fault n f)
        by (answer.ReadFault file) h = inr (inl (file, refl))
        by (answer.Syntax side place kind) h = same (load.Syntax side place kind) tt h
        by (answer.Profile side place head) h = same (load.Profile side place head) tt h
        by (answer.Table other) h = same (load.Table other) tt h
        by (answer.Limit kind) h = same (load.Limit kind) tt h
        by (answer.WriteFault what) h = absurd (no_fault h.2.0 fault n f)
        by answer.OutOfMemory h = inr (inr refl)
        by answer.Words h = absurd h

    -- valid evidence is answered so, if nothing failed
    yes_answer : HasNoFault run command → (c : Checked run command limits) → IsValidFor command c.loaded c.texts → (s : CheckStatus) → IsCause run command limits s
        → IsOrMemory CheckStatus.Yes s
    yes_answer none c v answer.Yes h = inl refl
    yes_answer none c v (answer.No item) h = absurd (never_both c h.0 item v h.1)
    yes_answer none c v (answer.ReadFault file) h = absurd (none.reads file (asked run command limits.file_bytes file h.0) h.1)
    yes_answer none c v (answer.Syntax side place kind) h = absurd (no_fault c (load.Syntax side place kind) tt h)
    yes_answer none c v (answer.Profile side place head) h = absurd (no_fault c (load.Profile side place head) tt h)
    yes_answer none c v (answer.Table fault) h = absurd (no_fault c (load.Table fault) tt h)
    yes_answer none c v (answer.Limit kind) h = absurd (no_fault c (load.Limit kind) tt h)
    yes_answer none c v (answer.WriteFault what) h = absurd (none.put h.1)
    yes_answer none c v answer.OutOfMemory h = inr refl
    yes_answer none c v answer.Words h = absurd h

    -- and evidence of which an item fails is answered no
    no_answer : HasNoFault run command → (c : Checked run command limits) (item : BadItem) → IsBadFor command c.loaded c.texts item
        → (s : CheckStatus) → IsCause run command limits s → IsNoOrMemory s
    no_answer none c item b answer.Yes h = absurd (never_both h.0 c item (shown_is_valid command h.0.loaded h.0.texts h.1) b)
    no_answer none c item b (answer.No other) h = inl (other, refl)
    no_answer none c item b (answer.ReadFault file) h = absurd (none.reads file (asked run command limits.file_bytes file h.0) h.1)
    no_answer none c item b (answer.Syntax side place kind) h = absurd (no_fault c (load.Syntax side place kind) tt h)
    no_answer none c item b (answer.Profile side place head) h = absurd (no_fault c (load.Profile side place head) tt h)
    no_answer none c item b (answer.Table fault) h = absurd (no_fault c (load.Table fault) tt h)
    no_answer none c item b (answer.Limit kind) h = absurd (no_fault c (load.Limit kind) tt h)
    no_answer none c item b (answer.WriteFault what) h = absurd (none.put h.1)
    no_answer none c item b answer.OutOfMemory h = inr refl
    no_answer none c item b answer.Words h = absurd h

    -- a case has a verdict
    complete_answer : HasNoFault run command → Checked run command limits → (s : CheckStatus) → IsCause run command limits s → IsVerdictOrMemory s
    complete_answer none c answer.Yes h = inl refl
    complete_answer none c (answer.No item) h = inr (inl (item, refl))
    complete_answer none c (answer.ReadFault file) h = absurd (none.reads file (asked run command limits.file_bytes file h.0) h.1)
    complete_answer none c (answer.Syntax side place kind) h = absurd (no_fault c (load.Syntax side place kind) tt h)
    complete_answer none c (answer.Profile side place head) h = absurd (no_fault c (load.Profile side place head) tt h)
    complete_answer none c (answer.Table fault) h = absurd (no_fault c (load.Table fault) tt h)
    complete_answer none c (answer.Limit kind) h = absurd (no_fault c (load.Limit kind) tt h)
    complete_answer none c (answer.WriteFault what) h = absurd (none.put h.1)
    complete_answer none c answer.OutOfMemory h = inr (inr refl)
    complete_answer none c answer.Words h = absurd h

  -- all that is known of a check with this cause
  pub checked_by : (s : CheckStatus) → IsCause run command limits s → IsChecked run command limits s
  checked_by s cause = record {
    yes = λ same. subst (IsCause run command limits) same cause;
    yes_answer = told run.folder.files _ (λ f are none c v. yes_answer f are none c v s cause);
    no = λ item same. subst (IsCause run command limits) same cause;
    no_answer = told run.folder.files _ (λ f are none c item b. no_answer f are none c item b s cause);
    complete = told run.folder.files _ (λ f are none c. complete_answer f are none c s cause);
    words = λ same. subst (IsCause run command limits) same cause;
    read_fault = λ file same. subst (IsCause run command limits) same cause;
    syntax = λ side place kind same. subst (IsCause run command limits) same cause;
    syntax_answer = λ side place kind. answers (load.Syntax side place kind) tt;
    profile = λ side place head same. subst (IsCause run command limits) same cause;
    profile_answer = λ side place head. answers (load.Profile side place head) tt;
    table = λ fault same. subst (IsCause run command limits) same cause;
    table_answer = λ fault. answers (load.Table fault) tt;
    limit = λ kind same. subst (IsCause run command limits) same cause;
    limit_answer = λ kind. answers (load.Limit kind) tt;
    write_fault = λ what same. subst (IsCause run command limits) same cause;
  }
    where
      answers : (fault : LoadFault) → IsNoRead fault → IfTold run (λ files. IsCheckFault run command limits fault → IsOrReadStop (check_status_of fault) s)
      answers fault n = told run.folder.files _ (λ f are g. fault_answer f are fault n g s cause)

  -- the first fault of the files
  fault_cause : (fault : LoadFault) → OrOutOfMemory load_ran_out (IsCheckFault run command limits) fault → IsCause run command limits (check_status_of fault)
  fault_cause (load.ReadFault file) h = h
  fault_cause (load.Syntax side place kind) h = h
  fault_cause (load.Profile side place head) h = h
  fault_cause (load.Table fault) h = h
  fault_cause (load.Limit kind) h = h
  fault_cause load.OutOfMemory h = tt

  pub checked_fault : (fault : LoadFault) → OrOutOfMemory load_ran_out (IsCheckFault run command limits) fault → (s : CheckStatus)
      → IsOrMemory (check_status_of fault) s → IsChecked run command limits s
  checked_fault fault h s is = ⊎_elim
      (λ e. subst (IsChecked run command limits) (sym e) (checked_by (check_status_of fault) (fault_cause fault h)))
      (λ e. subst (IsChecked run command limits) (sym e) (checked_by answer.OutOfMemory tt))
      is

  -- a verdict
  module _ (verdict : Verdict) (judged : IsJudged run.folder command limits verdict) where
    abbrev c : Checked run command limits
    c = record { texts = judged.texts; loaded = judged.loaded; read = judged.read }

    -- the line that was put is that of the verdict
    abbrev Tells : List ℕ → CheckStatus → Type 0
    Tells line s = IsTold run.output run.output_after verdict.item line s

    abbrev line_of : Option BadItem → List ℕ
    line_of item = verdict_line judged.loaded.names.classes.names item

    -- a verdict whose line was put
    put_whole : (item : Option BadItem) → verdict.item ≡ item → IfSome run.output.got (λ got. run.output_after.got ≡ Some (got ++ line_of verdict.item))
        → IsVerdictOn command judged.loaded judged.texts item × IfSome run.output.got (λ got. run.output_after.got ≡ Some (got ++ line_of item))
    put_whole item is h = (
      subst (IsVerdictOn command judged.loaded judged.texts) is judged.item,
      subst (λ (v : Option BadItem). IfSome run.output.got (λ got. run.output_after.got ≡ Some (got ++ line_of v))) is h,
    )

    told_cause : (s : CheckStatus) → Tells (line_of verdict.item) s → IsCause run command limits s
    told_cause answer.Yes h = let put = put_whole None h.0 h.1 in (c, put.0, put.1)
    told_cause (answer.No item) h = let put = put_whole (Some item) h.0 h.1 in (c, put.0, put.1)
    told_cause (answer.WriteFault target.Output) h = (refl, h.0, (c, verdict.item, judged.item, h.1))
    told_cause (answer.WriteFault target.Out) h = absurd h
    told_cause (answer.WriteFault target.Evidence) h = absurd h
    told_cause answer.OutOfMemory h = tt
    told_cause _ h = absurd h

    pub checked_verdict : (s : CheckStatus) → Tells (string_bytes verdict.line) s → IsChecked run command limits s
    checked_verdict s h = checked_by s (told_cause s (subst (λ (line : List ℕ). Tells line s) judged.line h))
