-- What a run over a made case answers, from why it stopped or was done.
use Rattle.std.proofs.Common.{◌≡◌, List, ℕ, inl, inr, refl, sym, subst, ⊎_elim}
use Rattle.std.specs.Prelude.{IfSome, string_bytes}
use Rattle.text_names.specs.declared.limits.Limits.{Limits}
use Rattle.io_edge.specs.Outside.{PutsRose, SinkSeen}
use Rattle.io_edge.specs.declared.outside.Role.{Role}
use Rattle.io_edge.specs.declared.outside.Target.{Target}
use Rattle.io_edge.specs.declared.outside.Target.TheVariants as target
use Rattle.ofn_axiom.specs.declared.types.Mode.TheVariants.{Strict}
use Rattle.case_load.specs.declared.fault.LoadFault.{LoadFault}
use Rattle.case_load.specs.declared.fault.LoadFault.TheVariants as load
use Rattle.case_load.specs.declared.fault.LimitKind.TheVariants as limit
use Rattle.case_load.specs.declared.texts.Loaded.{Loaded}
use Rattle.status_lines.specs.declared.status.Status.{Status}
use Rattle.status_lines.specs.Lines.{status_of}
use Rattle.status_lines.specs.Runs.{Run, HasGot, IsUntouched}
use Rattle.repair_run.specs.declared.choosing.Results.{Results}
use Rattle.repair_run.specs.Outcomes.{IsIncoherentCase, IsRepairable}
use Rattle.repair_run.specs.Run.{IsOrMemory, IsOrReadStop, IsOrEvidenceStop}
use Rattle.repair_run.specs.Made.{IsMadeCase, IsMadeDone, IsMadeFault, IsMadeRun, made_texts}
use Rattle.repair_run.specs.Inside.Choices.{AreResultsOf}
use Rattle.repair_run.specs.Inside.Stops.{IsMadeShort, IsMadeStop, IsPutStop, IsQuiet}
use Rattle.repair_run.proofs.FaultLaws.{OneAnswer, IsNoRead}
use Rattle.repair_run.proofs.FoundLaws.{MoreStay}
use Rattle.repair_run.proofs.RunLaws.{outcome_in, put_short, repairable_in}
use Rattle.repair_run.proofs.StopLaws.{HasOneAnswer, ShortAfter, no_part, fault_stop, incoherent_stop, complete_stop}

module _ (laws : OneAnswer) (more : MoreStay) (run : Run) (size : ℕ) (limits : Limits) (untouched : IsUntouched run) where
  -- the texts have one case or one fault
  one_answer : HasOneAnswer (IsMadeFault size limits) (IsMadeCase size limits)
  one_answer = record {
    never_both = λ loaded fault read n f. laws.never_both (made_texts size) Strict limits loaded fault read f;
    one_case = laws.one_case (made_texts size) Strict limits;
    one_fault = λ one other n m. laws.one_fault (made_texts size) Strict limits one other;
  }

  same_fault : (fault : LoadFault) → IsMadeFault size limits fault → IsMadeFault size limits fault
  same_fault fault h = h

  short : (what : Target) → IsMadeShort run size limits what → ShortAfter (IsMadeCase size limits) what
  short target.Output h = inl h.1
  short target.Out h = absurd h
  short target.Evidence h = absurd h

  no_short : ¬ (PutsRose run.output run.output_after) → (what : Target) → IsMadeShort run size limits what → ⊥
  no_short none target.Output h = none h.0
  no_short none target.Out h = h
  no_short none target.Evidence h = h

  -- it is the output that is not written
  only_output : (what : Target) → IsMadeShort run size limits what → what ≡ target.Output
  only_output target.Output h = refl
  only_output target.Out h = absurd h
  only_output target.Evidence h = absurd h

  -- a run that is done
  pub made_done : IsMadeDone run size limits → IsMadeRun run size limits Status.Done
  made_done done = record {
    done = λ same. done;
    words = λ (same : Status.Done ≡ Status.Words). cc;
    no_read = λ file (same : Status.Done ≡ Status.ReadFault file). cc;
    no_bytes = λ file (same : Status.Done ≡ Status.Limit (limit.Bytes file)). cc;
    no_write = λ what (same : Status.Done ≡ Status.WriteFault what). absurd cc;
    files = untouched;
    syntax = λ side place kind (same : Status.Done ≡ Status.Syntax side place kind). absurd cc;
    syntax_answer = λ side place kind. no_answer (load.Syntax side place kind) tt;
    profile = λ side place head (same : Status.Done ≡ Status.Profile side place head). absurd cc;
    profile_answer = λ side place head. no_answer (load.Profile side place head) tt;
    table = λ fault (same : Status.Done ≡ Status.Table fault). absurd cc;
    table_answer = λ fault. no_answer (load.Table fault) tt;
    limit = λ kind (same : Status.Done ≡ Status.Limit kind). absurd cc;
    limit_answer = λ kind. no_answer (load.Limit kind) tt;
    incoherent = λ part class (same : Status.Done ≡ Status.Incoherent part class). absurd cc;
    incoherent_answer = λ part class case.
        absurd (no_part (IsMadeFault size limits) (IsMadeCase size limits) one_answer more part class case done.0.loaded done.0.read done.0.coherent);
    output_fault = λ (same : Status.Done ≡ Status.WriteFault target.Output). absurd cc;
    complete = λ none r. inl refl;
  }
    where
      no_answer : (fault : LoadFault) → IsNoRead fault → IsMadeFault size limits fault → IsOrMemory (status_of fault) Status.Done
      no_answer fault n f = absurd (one_answer.never_both done.0.loaded fault done.0.read n f)

  -- no read fails, and no evidence is written
  at_once : (answer s : Status) → IsMadeStop run size limits s → IsOrReadStop answer s → IsOrMemory answer s
  at_once answer s stop h = ⊎_elim inl (⊎_elim (λ (r : (file : Role) × (s ≡ Status.ReadFault file)). absurd (subst (IsMadeStop run size limits) r.1 stop)) inr) h

  unwritten : (answer s : Status) → IsMadeStop run size limits s → IsOrEvidenceStop answer s → IsOrMemory answer s
  unwritten answer s stop h = ⊎_elim (at_once answer s stop) (λ (e : s ≡ Status.WriteFault target.Evidence). absurd (subst (IsMadeStop run size limits) e stop)) h

  -- a run that stops
  pub made_stopped : (s : Status) → IsMadeStop run size limits s → IsMadeRun run size limits s
  made_stopped s stop = record {
    done = λ same. absurd (subst (IsMadeStop run size limits) same stop);
    words = λ same. subst (IsMadeStop run size limits) same stop;
    no_read = λ file same. subst (IsMadeStop run size limits) same stop;
    no_bytes = λ file same. subst (IsMadeStop run size limits) same stop;
    no_write = λ what same. only_output what (subst (IsMadeStop run size limits) same stop);
    files = untouched;
    syntax = λ side place kind same. subst (IsMadeStop run size limits) same stop;
    syntax_answer = λ side place kind. answers (load.Syntax side place kind) tt;
    profile = λ side place head same. subst (IsMadeStop run size limits) same stop;
    profile_answer = λ side place head. answers (load.Profile side place head) tt;
    table = λ fault same. subst (IsMadeStop run size limits) same stop;
    table_answer = λ fault. answers (load.Table fault) tt;
    limit = λ kind same. subst (IsMadeStop run size limits) same stop;
    limit_answer = λ kind. answers (load.Limit kind) tt;
    incoherent = λ part class same. subst (IsMadeStop run size limits) same stop;
    incoherent_answer = λ part class case. unwritten (Status.Incoherent part class) s stop
        (incoherent_stop (IsMadeFault size limits) (IsMadeCase size limits) one_answer more
        (IsMadeFault size limits) (IsMadeShort run size limits) same_fault short part class case s stop);
    output_fault = λ same. subst (IsMadeStop run size limits) same stop;
    complete = λ none r. complete_stop (IsMadeFault size limits) (IsMadeCase size limits) one_answer more
        (IsMadeFault size limits) (IsMadeShort run size limits) same_fault short (λ file h. h) (no_short none) r s stop;
  }
    where
      answers : (fault : LoadFault) → IsNoRead fault → IsMadeFault size limits fault → IsOrMemory (status_of fault) s
      answers fault n f = at_once (status_of fault) s stop
          (fault_stop (IsMadeFault size limits) (IsMadeCase size limits) one_answer more
          (IsMadeFault size limits) (IsMadeShort run size limits) same_fault short fault n f s stop)

  -- a run that stops, or ran out of memory while its line was put
  pub made_refused : (s s' : Status) → IsMadeStop run size limits s → IsOrMemory s s' → IsMadeRun run size limits s'
  made_refused s s' stop m = ⊎_elim
      (λ e. subst (IsMadeRun run size limits) (sym e) (made_stopped s stop))
      (λ e. subst (IsMadeRun run size limits) (sym e) (made_stopped Status.OutOfMemory tt))
      m

-- how a run ends that has results
module _ (run : Run) (size : ℕ) (limits : Limits) (loaded : Loaded) (read : IsMadeCase size limits loaded) (results : Results) (are : AreResultsOf loaded results) where
  abbrev Puts : Status → Type 0
  Puts s = IsPutStop run.output run.output_after (string_bytes results.line) s

  pub put_done : HasGot run (string_bytes results.line) → IsMadeDone run size limits
  put_done put = (outcome_in (IsMadeCase size limits) loaded read results are, subst (HasGot run) are.line put)

  pub put_stop : (s : Status) → Puts s → IsMadeStop run size limits s
  put_stop (Status.WriteFault target.Output) h =
      (h.0, repairable_in (IsMadeCase size limits) loaded read results are, put_short (IsMadeCase size limits) loaded read results are run h.1)
  put_stop Status.OutOfMemory h = tt
  put_stop (Status.WriteFault target.Out) h = absurd h
  put_stop (Status.WriteFault target.Evidence) h = absurd h
  put_stop _ h = absurd h

-- and what the output has got then
pub put_quiet : (old new : SinkSeen) (results : Results) (s : Status) → IsPutStop old new (string_bytes results.line) s → IsQuiet old new s
put_quiet old new results (Status.WriteFault target.Output) h = tt
put_quiet old new results Status.OutOfMemory h = h
put_quiet old new results (Status.WriteFault target.Out) h = absurd h
put_quiet old new results (Status.WriteFault target.Evidence) h = absurd h
put_quiet old new results _ h = absurd h
