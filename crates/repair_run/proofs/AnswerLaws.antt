-- What a run over files answers, from why it stopped or was done.
use Rattle.std.proofs.Common.{◌≡◌, List, ℕ, true, false, inl, inr, refl, sym, subst, ⊎_elim}
use Rattle.std.specs.Prelude.{Option, Some, None, IfSome}
use Rattle.text_names.specs.declared.limits.Limits.{Limits}
use Rattle.text_names.specs.declared.place.Place.{Place}
use Rattle.io_edge.specs.Outside.{Files, ReadsRose}
use Rattle.io_edge.specs.declared.outside.Role.{Role}
use Rattle.io_edge.specs.declared.outside.Role.TheVariants as role
use Rattle.io_edge.specs.declared.outside.Target.{Target}
use Rattle.io_edge.specs.declared.outside.Target.TheVariants as target
use Rattle.el_logic.specs.declared.types.Side.{Side}
use Rattle.ofn_heads.specs.declared.outside.HeadId.{HeadId}
use Rattle.ofn_axiom.specs.declared.types.Mode.TheVariants.{ElPart}
use Rattle.case_load.specs.Folders.{IsNotRead}
use Rattle.case_load.specs.declared.fault.LoadFault.{LoadFault}
use Rattle.case_load.specs.declared.fault.LoadFault.TheVariants as load
use Rattle.command_words.specs.declared.types.FileNames.{FileNames}
use Rattle.status_lines.specs.declared.status.Status.{Status}
use Rattle.status_lines.specs.Lines.{status_of}
use Rattle.status_lines.specs.Runs.{Run, IfTold}
use Rattle.repair_run.specs.declared.request.Request.{Request}
use Rattle.repair_run.specs.Outcomes.{IsRepairable, inputs_named}
use Rattle.repair_run.specs.Run.{IsReadIn, IsRunFault, IsDone, IsRun, FilesStand, HasNoFault, IsOrMemory, IsOrReadStop, name_of}
use Rattle.repair_run.specs.Inside.Stops.{IsFileStop, IsStop, IsWriteShort}
use Rattle.repair_run.proofs.FaultLaws.{OneAnswer, IsNoRead, loaded_or_fault, one_loaded, one_file_fault}
use Rattle.repair_run.proofs.FoundLaws.{MoreStay}
use Rattle.repair_run.proofs.StopLaws.{HasOneAnswer, ShortAfter, no_part, fault_stop, incoherent_stop, complete_stop}

-- what is known if the files are told
told : (o : Option Files) (P : Files → Type 0) → ((files : Files) → o ≡ Some files → P files) → IfSome o P
told None P h = tt
told (Some files) P h = h files refl

-- a read of an input that failed is one of its name
read_rose : (run : Run) (names : FileNames) (most : ℕ) (file : Role) → IsNotRead run.folder run.folder_after (inputs_named names) most file
    → ReadsRose run.folder run.folder_after (name_of names file)
read_rose run names most role.Left h = h.1
read_rose run names most role.Right h = h.1
read_rose run names most role.Map h = h.1
read_rose run names most role.Out h = absurd h.0
read_rose run names most role.Evidence h = absurd h.0

module _ (laws : OneAnswer) (more : MoreStay) (run : Run) (asked : Request) (limits : Limits) where
  abbrev IsFault : LoadFault → Type 0
  IsFault fault = IsRunFault run asked limits fault

  abbrev IsSure : LoadFault → Type 0
  IsSure fault = IsFileStop run.folder run.folder_after asked limits fault

  -- files that are told have one case or one fault
  one_answer : (files : Files) → run.folder.files ≡ Some files → HasOneAnswer (IsRunFault run asked limits) (IsReadIn run asked limits)
  one_answer files are = record {
    never_both = loaded_or_fault laws run.folder run.folder_after files are (inputs_named asked.names) asked.mode limits;
    one_case = one_loaded laws run.folder run.folder_after files are (inputs_named asked.names) asked.mode limits;
    one_fault = one_file_fault laws run.folder run.folder_after files are (inputs_named asked.names) asked.mode limits;
  }

  cause : (fault : LoadFault) → IsSure fault → IsFault fault
  cause fault h = h.first

  -- with `--el-part` nothing is outside the profile
  outside : (side : Side) (place : Place) (head : HeadId) → IsSure (load.Profile side place head) → asked.mode ≡ ElPart → ⊥
  outside side place head h mode = let both : true ≡ false = h.inside mode in absurd cc

  short : (what : Target) → IsWriteShort run asked limits what → ShortAfter (IsReadIn run asked limits) what
  short target.Out h = inl h.1
  short target.Output h = inl h.1
  short target.Evidence h = inr (refl, h.1)

  -- nothing failed
  no_read : HasNoFault run asked.names → (file : Role) → IsSure (load.ReadFault file) → ⊥
  no_read none file h = none.reads file (read_rose run asked.names limits.file_bytes file h.first)

  no_short : HasNoFault run asked.names → (what : Target) → IsWriteShort run asked limits what → ⊥
  no_short none target.Out h = none.write h.0
  no_short none target.Output h = none.put h.0
  no_short none target.Evidence h = none.write_evidence h.0

  -- a run that is done
  pub done_run : IsDone run asked limits → IsRun run asked limits Status.Done
  done_run done = record {
    done = λ same. done;
    words = λ (same : Status.Done ≡ Status.Words). cc;
    read_fault = λ file (same : Status.Done ≡ Status.ReadFault file). absurd cc;
    syntax = λ side place kind (same : Status.Done ≡ Status.Syntax side place kind). absurd cc;
    syntax_answer = λ side place kind. no_answer (load.Syntax side place kind) tt;
    profile = λ side place head (same : Status.Done ≡ Status.Profile side place head). absurd cc;
    profile_answer = λ side place head. no_answer (load.Profile side place head) tt;
    no_profile = λ mode side place head (same : Status.Done ≡ Status.Profile side place head). cc;
    table = λ fault (same : Status.Done ≡ Status.Table fault). absurd cc;
    table_answer = λ fault. no_answer (load.Table fault) tt;
    limit = λ kind (same : Status.Done ≡ Status.Limit kind). absurd cc;
    limit_answer = λ kind. no_answer (load.Limit kind) tt;
    incoherent = λ part class (same : Status.Done ≡ Status.Incoherent part class). absurd cc;
    incoherent_answer = λ part class. told run.folder.files _ (λ files are case.
        absurd (no_part (IsRunFault run asked limits) (IsReadIn run asked limits) (one_answer files are) more part class case done.0.outcome.loaded done.0.outcome.read done.0.outcome.coherent));
    evidence_fault = λ (same : Status.Done ≡ Status.WriteFault target.Evidence). absurd cc;
    write_fault = λ (same : Status.Done ≡ Status.WriteFault target.Out). absurd cc;
    output_fault = λ (same : Status.Done ≡ Status.WriteFault target.Output). absurd cc;
    complete = told run.folder.files _ (λ files are none r. inl refl);
    files = (done.0, done.1);
  }
    where
      no_answer : (fault : LoadFault) → IsNoRead fault → IfTold run (λ files. IsRunFault run asked limits fault → IsOrReadStop (status_of fault) Status.Done)
      no_answer fault n = told run.folder.files _ (λ files are f. absurd ((one_answer files are).never_both done.0.outcome.loaded fault done.0.outcome.read n f))

  -- a run that stops
  pub stopped_run : (s : Status) → IsStop run asked limits s → FilesStand run asked limits s → IsRun run asked limits s
  stopped_run s stop files = record {
    done = λ same. absurd (subst (IsStop run asked limits) same stop);
    words = λ same. subst (IsStop run asked limits) same stop;
    read_fault = λ file same. cause (load.ReadFault file) (subst (IsStop run asked limits) same stop);
    syntax = λ side place kind same. cause (load.Syntax side place kind) (subst (IsStop run asked limits) same stop);
    syntax_answer = λ side place kind. answers (load.Syntax side place kind) tt;
    profile = λ side place head same. cause (load.Profile side place head) (subst (IsStop run asked limits) same stop);
    profile_answer = λ side place head. answers (load.Profile side place head) tt;
    no_profile = λ mode side place head same. outside side place head (subst (IsStop run asked limits) same stop) mode;
    table = λ fault same. cause (load.Table fault) (subst (IsStop run asked limits) same stop);
    table_answer = λ fault. answers (load.Table fault) tt;
    limit = λ kind same. cause (load.Limit kind) (subst (IsStop run asked limits) same stop);
    limit_answer = λ kind. answers (load.Limit kind) tt;
    incoherent = λ part class same. subst (IsStop run asked limits) same stop;
    incoherent_answer = λ part class. told run.folder.files _ (λ f are case.
        incoherent_stop (IsRunFault run asked limits) (IsReadIn run asked limits) (one_answer f are) more
        (IsFileStop run.folder run.folder_after asked limits) (IsWriteShort run asked limits) cause short part class case s stop);
    evidence_fault = λ same. subst (IsStop run asked limits) same stop;
    write_fault = λ same. subst (IsStop run asked limits) same stop;
    output_fault = λ same. subst (IsStop run asked limits) same stop;
    complete = told run.folder.files _ (λ f are none r.
        complete_stop (IsRunFault run asked limits) (IsReadIn run asked limits) (one_answer f are) more
        (IsFileStop run.folder run.folder_after asked limits) (IsWriteShort run asked limits) cause short (no_read none) (no_short none) r s stop);
    files = files;
  }
    where
      answers : (fault : LoadFault) → IsNoRead fault → IfTold run (λ files. IsRunFault run asked limits fault → IsOrReadStop (status_of fault) s)
      answers fault n = told run.folder.files _ (λ f are g.
          fault_stop (IsRunFault run asked limits) (IsReadIn run asked limits) (one_answer f are) more
          (IsFileStop run.folder run.folder_after asked limits) (IsWriteShort run asked limits) cause short fault n g s stop)

  -- how the files stand if memory ran out in place of another answer
  memory_files : (s : Status) → IsStop run asked limits s → FilesStand run asked limits s → FilesStand run asked limits Status.OutOfMemory
  memory_files (Status.WriteFault target.Evidence) h f = inr (inr (inr (inl (h.0, f))))
  memory_files (Status.WriteFault target.Out) h f = inr (inr (inr (inr (h.0, f))))
  memory_files (Status.WriteFault target.Output) h f = inr (inr (inl f))
  memory_files (Status.Incoherent part class) h f = inr (inl (f.1, inr (part, class, f.0, f.2), f.3))
  memory_files Status.OutOfMemory h f = f
  memory_files Status.Done h f = absurd h
  memory_files Status.Words h f = absurd h
  memory_files _ h f = inl f

  -- a run that stops, or ran out of memory while its line was put
  pub refused_run : (s s' : Status) → IsStop run asked limits s → FilesStand run asked limits s → IsOrMemory s s' → IsRun run asked limits s'
  refused_run s s' stop files m = ⊎_elim
      (λ e. subst (IsRun run asked limits) (sym e) (stopped_run s stop files))
      (λ e. subst (IsRun run asked limits) (sym e) (stopped_run Status.OutOfMemory tt (memory_files s stop files)))
      m
