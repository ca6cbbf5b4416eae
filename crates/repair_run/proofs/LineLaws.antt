-- What putting the line of a refusal leaves.
use Rattle.std.proofs.Common.{◌≡◌, List, ℕ, refl, sym, ◌∙◌, ap, subst, ⊎_elim}
use Rattle.std.specs.Prelude.{Option}
use Rattle.text_names.specs.declared.limits.Limits.{Limits}
use Rattle.io_edge.specs.Outside.{SinkSeen}
use Rattle.io_edge.specs.declared.outside.Target.{Target}
use Rattle.io_edge.specs.declared.outside.Target.TheVariants as Target
use Rattle.case_load.specs.declared.fault.LoadFault.{LoadFault}
use Rattle.case_load.specs.declared.texts.Loaded.{Loaded}
use Rattle.status_lines.specs.declared.status.Status.{Status}
use Rattle.status_lines.specs.Runs.{Run}
use Rattle.repair_run.specs.declared.request.Request.{Request}
use Rattle.repair_run.specs.Run.{FilesStand, IsReadIn, OutputStands, IsOrMemory}
use Rattle.repair_run.specs.Made.{IsMadeCase, IsMadeFault}
use Rattle.repair_run.specs.Inside.Stops.{IsFileStop, IsMadeShort, IsMadeStop, IsStop, IsStopBy, IsWriteShort, IsQuiet}

-- it changes nothing of why the run stopped, nor of its files
later_stop : (IsFault : LoadFault → Type 0) (IsRead : Loaded → Type 0) (IsShort IsLater : Target → Type 0) (s : Status)
    → ((what : Target) → s ≡ Status.WriteFault what → IsShort what → IsLater what) → IsStopBy IsFault IsRead IsShort s → IsStopBy IsFault IsRead IsLater s
later_stop IsFault IsRead IsShort IsLater (Status.WriteFault what) into h = into what refl h
later_stop IsFault IsRead IsShort IsLater (Status.Incoherent part iri) into h = h
later_stop IsFault IsRead IsShort IsLater (Status.ReadFault file) into h = h
later_stop IsFault IsRead IsShort IsLater (Status.Syntax side place kind) into h = h
later_stop IsFault IsRead IsShort IsLater (Status.Profile side place head) into h = h
later_stop IsFault IsRead IsShort IsLater (Status.Table fault) into h = h
later_stop IsFault IsRead IsShort IsLater (Status.Limit kind) into h = h
later_stop IsFault IsRead IsShort IsLater Status.OutOfMemory into h = h
later_stop IsFault IsRead IsShort IsLater Status.Done into h = h
later_stop IsFault IsRead IsShort IsLater Status.Words into h = h

module _ (run : Run) (after : SinkSeen) where
  abbrev later : Run
  later = record run { output_after = after }

  later_short : (asked : Request) (limits : Limits) (what : Target) → (what ≡ Target.Output → after ≡ run.output_after)
      → IsWriteShort run asked limits what → IsWriteShort later asked limits what
  later_short asked limits Target.Out same h = h
  later_short asked limits Target.Evidence same h = h
  later_short asked limits Target.Output same h =
      subst (λ (out : SinkSeen). IsWriteShort (record run { output_after = out }) asked limits Target.Output) (sym (same refl)) h

  later_made_short : (size : ℕ) (limits : Limits) (what : Target) → (what ≡ Target.Output → after ≡ run.output_after)
      → IsMadeShort run size limits what → IsMadeShort later size limits what
  later_made_short size limits Target.Out same h = h
  later_made_short size limits Target.Evidence same h = h
  later_made_short size limits Target.Output same h =
      subst (λ (out : SinkSeen). IsMadeShort (record run { output_after = out }) size limits Target.Output) (sym (same refl)) h

  pub later_run : (asked : Request) (limits : Limits) (s : Status) → (s ≡ Status.WriteFault Target.Output → after ≡ run.output_after)
      → IsStop run asked limits s → IsStop later asked limits s
  later_run asked limits s same h =
      later_stop (IsFileStop run.folder run.folder_after asked limits) (IsReadIn run asked limits) (IsWriteShort run asked limits) (IsWriteShort later asked limits) s
      (λ what is. later_short asked limits what (λ out. same (is ∙ ap {B = Status} (λ (t : Target). Status.WriteFault t) out))) h

  pub later_made : (size : ℕ) (limits : Limits) (s : Status) → (s ≡ Status.WriteFault Target.Output → after ≡ run.output_after)
      → IsMadeStop run size limits s → IsMadeStop later size limits s
  later_made size limits s same h =
      later_stop (IsMadeFault size limits) (IsMadeCase size limits) (IsMadeShort run size limits) (IsMadeShort later size limits) s
      (λ what is. later_made_short size limits what (λ out. same (is ∙ ap {B = Status} (λ (t : Target). Status.WriteFault t) out))) h

pub later_files : (run : Run) (asked : Request) (limits : Limits) (after : SinkSeen) (s : Status) → FilesStand run asked limits s
    → FilesStand (record run { output_after = after }) asked limits s
later_files run asked limits after (Status.WriteFault Target.Out) h = h
later_files run asked limits after (Status.WriteFault Target.Evidence) h = h
later_files run asked limits after (Status.WriteFault Target.Output) h = h
later_files run asked limits after Status.Done h = h
later_files run asked limits after Status.OutOfMemory h = h
later_files run asked limits after _ h = h

-- the line that was put comes after what the output had at first
module _ (old mid new : SinkSeen) where
  at_memory : mid.got ≡ old.got → OutputStands mid new Status.OutOfMemory → OutputStands old new Status.OutOfMemory
  at_memory e h = subst (λ (g : Option (List ℕ)). OutputStands (record mid { got = g }) new Status.OutOfMemory) e h

  from_old : (s : Status) → mid ≡ old → OutputStands mid new s → OutputStands old new s
  from_old s e h = subst (λ (seen : SinkSeen). OutputStands seen new s) e h

  same_output : (s : Status) → IsQuiet old mid s → OutputStands mid new s → OutputStands old new s
  same_output (Status.WriteFault Target.Output) k h = tt
  same_output (Status.WriteFault Target.Out) k h = from_old (Status.WriteFault Target.Out) k h
  same_output (Status.WriteFault Target.Evidence) k h = from_old (Status.WriteFault Target.Evidence) k h
  same_output Status.Done k h = tt
  same_output Status.OutOfMemory k h = at_memory k h
  same_output Status.Words k h = from_old Status.Words k h
  same_output (Status.ReadFault file) k h = from_old (Status.ReadFault file) k h
  same_output (Status.Syntax side place kind) k h = from_old (Status.Syntax side place kind) k h
  same_output (Status.Profile side place head) k h = from_old (Status.Profile side place head) k h
  same_output (Status.Table fault) k h = from_old (Status.Table fault) k h
  same_output (Status.Limit kind) k h = from_old (Status.Limit kind) k h
  same_output (Status.Incoherent part class) k h = from_old (Status.Incoherent part class) k h

  -- nothing was put before the line, unless the summary was
  got_before : (s : Status) → IsQuiet old mid s → (s ≡ Status.WriteFault Target.Output → ⊥) → mid.got ≡ old.got
  got_before (Status.WriteFault Target.Output) k other = absurd (other refl)
  got_before (Status.WriteFault Target.Out) k other = ap (λ (seen : SinkSeen). seen.got) k
  got_before (Status.WriteFault Target.Evidence) k other = ap (λ (seen : SinkSeen). seen.got) k
  got_before Status.OutOfMemory k other = k
  got_before _ k other = ap (λ (seen : SinkSeen). seen.got) k

  pub refused_output : (s s' : Status) → IsQuiet old mid s → IsOrMemory s s' → (s ≡ Status.WriteFault Target.Output → s' ≡ s) → OutputStands mid new s' → OutputStands old new s'
  refused_output s s' k or_other same h = ⊎_elim
      (λ e. subst (OutputStands old new) (sym e) (same_output s k (subst (OutputStands mid new) e h)))
      (λ e. subst (OutputStands old new) (sym e) (at_memory (got_before s k (λ f. other s s' e f (same f))) (subst (OutputStands mid new) e h)))
      or_other
    where
      other : (s s' : Status) → s' ≡ Status.OutOfMemory → s ≡ Status.WriteFault Target.Output → s' ≡ s → ⊥
      other s s' e f g = let h : Status.OutOfMemory ≡ Status.WriteFault Target.Output = sym e ∙ g ∙ f in cc
