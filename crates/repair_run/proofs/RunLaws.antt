-- How the steps of a run join.
use Rattle.std.proofs.Common.{◌≡◌, ◌⊎◌, ◌≤◌, ℕ, List, ◌++◌, inl, inr, refl, sym, ◌∙◌, ap, subst, ⊎_elim, arith}
use Rattle.std.specs.Prelude.{false, Option, Some, None, IfSome, string_bytes}
use Rattle.text_names.specs.declared.limits.Limits.{Limits}
use Rattle.io_edge.specs.Outside.{Files, FolderSeen, SinkSeen, FaultsNeverFall, Rose, HoldsFront, HasGotFront, with_file}
use Rattle.io_edge.specs.declared.outside.Target.{Target}
use Rattle.io_edge.specs.declared.outside.Target.TheVariants as Target
use Rattle.el_logic.specs.declared.types.Part.{Part}
use Rattle.byte_words.specs.Faults.{OrOutOfMemory}
use Rattle.ofn_axiom.specs.declared.types.Mode.TheVariants.{ElPart}
use Rattle.case_maker.specs.MadeCase.{left_text, right_text, table_text}
use Rattle.case_load.specs.Loads.{Inputs, inputs}
use Rattle.case_load.specs.Faults.{is_outside, load_ran_out}
use Rattle.case_load.specs.Folders.{IsFirstFileFault}
use Rattle.case_load.specs.declared.fault.LoadFault.{LoadFault}
use Rattle.case_load.specs.declared.fault.LoadFault.TheVariants as load
use Rattle.case_load.specs.declared.texts.Loaded.{Loaded}
use Rattle.status_lines.specs.declared.status.Status.{Status}
use Rattle.status_lines.specs.Lines.{refusal_line, status_of}
use Rattle.command_words.specs.declared.types.FileNames.{FileNames}
use Rattle.repair_run.specs.declared.choosing.Results.{Results}
use Rattle.repair_run.specs.declared.request.Request.{Request}
use Rattle.repair_run.specs.Outcomes.{Outcome, inputs_named, IsIncoherentCase, IsRepairable, out_text_of}
use Rattle.status_lines.specs.Runs.{Run, IfTold, HasGot}
use Rattle.repair_run.specs.Run.{Shown, HoldsEvidence, HoldsBoth, IsReadIn, IsDone, IsTorn, IsPutShort, FilesStand, OutputStands}
use Rattle.repair_run.specs.Made.{made_texts}
use Rattle.repair_run.specs.Inside.Choices.{AreResultsOf, IsFound}
use Rattle.repair_run.specs.Inside.Stops.{IsFileStop, IsLoadStop, IsPutStop, IsStop, IsStopBy, IsQuiet, IsEvidenceStop, IsRefusal, IsRefused, IsWriteStop, Written, IsResultStop, AreWritten, written_of}

-- the line of an answer, whole
line_of_answer : (got : Option (List ℕ)) (faults : ℕ) (new : SinkSeen) (s : Status) → IfSome got (λ bytes. new.got ≡ Some (bytes ++ refusal_line s))
    → OutputStands (record { got = got; faults = faults }) new s
line_of_answer None faults new (Status.WriteFault Target.Output) h = tt
line_of_answer None faults new (Status.WriteFault Target.Evidence) h = tt
line_of_answer None faults new (Status.WriteFault Target.Out) h = tt
line_of_answer None faults new _ h = tt
line_of_answer (Some got) faults new Status.Done h = tt
line_of_answer (Some got) faults new (Status.WriteFault Target.Output) h = tt
line_of_answer (Some got) faults new (Status.WriteFault Target.Evidence) h = inl h
line_of_answer (Some got) faults new (Status.WriteFault Target.Out) h = inl h
line_of_answer (Some got) faults new Status.OutOfMemory h = (20, h)
line_of_answer (Some got) faults new _ h = inl h

pub line_whole : (old new : SinkSeen) (s : Status) → IfSome old.got (λ got. new.got ≡ Some (got ++ refusal_line s)) → OutputStands old new s
line_whole old new s h = line_of_answer old.got old.faults new s h

-- faults that are counted later
rose_later : (first before now : ℕ) → first ≤ before → Rose before now → Rose first now
rose_later first before now le h = omega (arith, le, h)

-- why nothing is loaded of files with a fault, and of texts
pub file_stops : (old new : FolderSeen) (asked : Request) (limits : Limits) (fault : LoadFault)
    → OrOutOfMemory load_ran_out (IsFirstFileFault old new (inputs_named asked.names) asked.mode limits) fault
    → (asked.mode ≡ ElPart → is_outside fault ≡ false) → IsLoadStop (IsFileStop old new asked limits) (status_of fault)
file_stops old new asked limits load.OutOfMemory h inside = tt
file_stops old new asked limits (load.ReadFault file) h inside = record { first = h; inside = inside }
file_stops old new asked limits (load.Syntax side place kind) h inside = record { first = h; inside = inside }
file_stops old new asked limits (load.Profile side place head) h inside = record { first = h; inside = inside }
file_stops old new asked limits (load.Table fault) h inside = record { first = h; inside = inside }
file_stops old new asked limits (load.Limit kind) h inside = record { first = h; inside = inside }

pub fault_stops : (IsFault : LoadFault → Type 0) (fault : LoadFault) → OrOutOfMemory load_ran_out IsFault fault → IsLoadStop IsFault (status_of fault)
fault_stops IsFault load.OutOfMemory h = tt
fault_stops IsFault (load.ReadFault file) h = h
fault_stops IsFault (load.Syntax side place kind) h = h
fault_stops IsFault (load.Profile side place head) h = h
fault_stops IsFault (load.Table fault) h = h
fault_stops IsFault (load.Limit kind) h = h

-- what is so of three texts that are those of a made case
pub made_inputs : (P : Inputs → Type 0) (size : ℕ) {left right table : List ℕ} → left ≡ left_text size → right ≡ right_text size → table ≡ table_text size
    → P (inputs left right table) → P (made_texts size)
made_inputs P size {left} {right} {table} l r t h =
    subst (λ (a : List ℕ). P (inputs a (right_text size) (table_text size))) l
    (subst (λ (b : List ℕ). P (inputs left b (table_text size))) r (subst (λ (c : List ℕ). P (inputs left right c)) t h))

-- if nothing is loaded the run stops
pub load_stop : (IsFault : LoadFault → Type 0) (IsRead : Loaded → Type 0) (IsShort : Target → Type 0) (s : Status)
    → IsLoadStop IsFault s → IsStopBy IsFault IsRead IsShort s
load_stop IsFault IsRead IsShort (Status.Incoherent part iri) h = absurd h
load_stop IsFault IsRead IsShort (Status.WriteFault what) h = absurd h
load_stop IsFault IsRead IsShort (Status.ReadFault file) h = h
load_stop IsFault IsRead IsShort (Status.Syntax side place kind) h = h
load_stop IsFault IsRead IsShort (Status.Profile side place head) h = h
load_stop IsFault IsRead IsShort (Status.Table fault) h = h
load_stop IsFault IsRead IsShort (Status.Limit kind) h = h
load_stop IsFault IsRead IsShort Status.OutOfMemory h = h
load_stop IsFault IsRead IsShort Status.Done h = absurd h
load_stop IsFault IsRead IsShort Status.Words h = absurd h

-- it has changed no file and put nothing
pub load_files : (run : Run) (asked : Request) (limits : Limits) (IsFault : LoadFault → Type 0) → run.folder_after.files ≡ run.folder.files
    → (s : Status) → IsLoadStop IsFault s → FilesStand run asked limits s
load_files run asked limits IsFault same (Status.ReadFault file) h = same
load_files run asked limits IsFault same (Status.Syntax side place kind) h = same
load_files run asked limits IsFault same (Status.Profile side place head) h = same
load_files run asked limits IsFault same (Status.Table fault) h = same
load_files run asked limits IsFault same (Status.Limit kind) h = same
load_files run asked limits IsFault same Status.OutOfMemory h = inl same
load_files run asked limits IsFault same (Status.WriteFault what) h = absurd h
load_files run asked limits IsFault same _ h = absurd h

pub load_quiet : (IsFault : LoadFault → Type 0) (seen : SinkSeen) (s : Status) → IsLoadStop IsFault s → IsQuiet seen seen s
load_quiet IsFault seen (Status.WriteFault what) h = absurd h
load_quiet IsFault seen Status.OutOfMemory h = refl
load_quiet IsFault seen _ h = refl

-- what a write left, in a folder that tells what another tells
pub later_told : (o p : Option Files) (P : Files → Type 0) → p ≡ o → IfSome p P → IfSome o P
later_told o p P same h = subst (λ (q : Option Files). IfSome q P) same h

-- what one write left, and then another
both_told : (o m n : Option Files) (name other bytes more : List ℕ) → IfSome o (λ files. m ≡ Some (with_file files name bytes))
    → IfSome m (λ files. n ≡ Some (with_file files other more)) → IfSome o (λ files. n ≡ Some (with_file (with_file files name bytes) other more))
both_told None m n name other bytes more h k = tt
both_told (Some files) m n name other bytes more h k = subst (λ (q : Option Files). IfSome q (λ f. n ≡ Some (with_file f other more))) h k

-- and then one that failed
torn_told : (o m n : Option Files) (name other bytes more : List ℕ) → IfSome o (λ files. m ≡ Some (with_file files name bytes))
    → IfSome m (λ files. (n ≡ Some files) ⊎ HoldsFront files n other more)
    → IfSome o (λ files. (n ≡ Some (with_file files name bytes)) ⊎ HoldsFront (with_file files name bytes) n other more)
torn_told None m n name other bytes more h k = tt
torn_told (Some files) m n name other bytes more h k = subst (λ (q : Option Files). IfSome q (λ f. (n ≡ Some f) ⊎ HoldsFront f n other more)) h k

-- and then none
same_told : (o m n : Option Files) (name bytes : List ℕ) → n ≡ m → IfSome o (λ files. m ≡ Some (with_file files name bytes)) → IfSome o (λ files. n ≡ Some (with_file files name bytes))
same_told o m n name bytes same h = subst (λ (q : Option Files). IfSome o (λ files. q ≡ Some (with_file files name bytes))) (sym same) h

-- EVIDENCE was written, and then the writing of OUT and the summary stopped
pub after_evidence : (run : Run) (middle : FolderSeen) (names : FileNames) (w : Written) → FaultsNeverFall run.folder middle
    → IfTold run (λ files. middle.files ≡ Some (with_file files names.evidence w.evidence))
    → (s : Status) → IsWriteStop (record run { folder = middle }) names.out w.text w.line s → IsResultStop run names w s
after_evidence run middle names w later told (Status.WriteFault Target.Out) h = (
  rose_later (run.folder.write_faults names.out) (middle.write_faults names.out) (run.folder_after.write_faults names.out) (later.writes names.out) h.0,
  torn_told run.folder.files middle.files run.folder_after.files names.evidence names.out w.evidence w.text told h.1,
  h.2,
)
after_evidence run middle names w later told (Status.WriteFault Target.Output) h =
    (h.0, both_told run.folder.files middle.files run.folder_after.files names.evidence names.out w.evidence w.text told h.1, h.2)
after_evidence run middle names w later told Status.OutOfMemory h = (
  inr (⊎_elim (λ e. inl (same_told run.folder.files middle.files run.folder_after.files names.evidence w.evidence e told))
      (λ written. inr (both_told run.folder.files middle.files run.folder_after.files names.evidence names.out w.evidence w.text told written)) h.0),
  h.1,
)
after_evidence run middle names w later told (Status.WriteFault Target.Evidence) h = absurd h
after_evidence run middle names w later told _ h = absurd h

-- EVIDENCE could not be written
pub no_evidence : (run : Run) (names : FileNames) (w : Written) → run.output_after ≡ run.output
    → (s : Status) → IsEvidenceStop run.folder run.folder_after names.evidence w.evidence s → IsResultStop run names w s
no_evidence run names w same (Status.WriteFault Target.Evidence) h = (h.0, h.1, same)
no_evidence run names w same Status.OutOfMemory h = (inl h, ap (λ (seen : SinkSeen). seen.got) same)
no_evidence run names w same (Status.WriteFault Target.Out) h = absurd h
no_evidence run names w same (Status.WriteFault Target.Output) h = absurd h
no_evidence run names w same _ h = absurd h

-- a part is incoherent, and EVIDENCE could not be written
pub refused_short : (old new : FolderSeen) (loaded : Loaded) (name bytes : List ℕ) (part : Part) (iri : List ℕ) → IsRefusal loaded bytes part iri
    → (s : Status) → IsEvidenceStop old new name bytes s → IsRefused old new loaded name s
refused_short old new loaded name bytes part iri r (Status.WriteFault Target.Evidence) h = (bytes, part, iri, r, h)
refused_short old new loaded name bytes part iri r Status.OutOfMemory h = h
refused_short old new loaded name bytes part iri r (Status.WriteFault Target.Out) h = absurd h
refused_short old new loaded name bytes part iri r (Status.WriteFault Target.Output) h = absurd h
refused_short old new loaded name bytes part iri r _ h = absurd h

-- writes that began from files as they were at first, with no fewer faults counted
pub from_first : (run : Run) (middle : FolderSeen) (names : FileNames) (w : Written) → FaultsNeverFall run.folder middle → middle.files ≡ run.folder.files
    → (s : Status) → IsResultStop (record run { folder = middle }) names w s → IsResultStop run names w s
from_first run middle names w later same (Status.WriteFault Target.Evidence) h = (
  rose_later (run.folder.write_faults names.evidence) (middle.write_faults names.evidence) (run.folder_after.write_faults names.evidence) (later.writes names.evidence) h.0,
  later_told run.folder.files middle.files _ same h.1,
  h.2,
)
from_first run middle names w later same (Status.WriteFault Target.Out) h = (
  rose_later (run.folder.write_faults names.out) (middle.write_faults names.out) (run.folder_after.write_faults names.out) (later.writes names.out) h.0,
  later_told run.folder.files middle.files _ same h.1,
  h.2,
)
from_first run middle names w later same (Status.WriteFault Target.Output) h = (h.0, later_told run.folder.files middle.files _ same h.1, h.2)
from_first run middle names w later same Status.OutOfMemory h =
    (⊎_elim (λ e. inl (e ∙ same)) (λ k. inr (⊎_elim (λ e. inl (later_told run.folder.files middle.files _ same e)) (λ e. inr (later_told run.folder.files middle.files _ same e)) k)) h.0, h.1)
from_first run middle names w later same _ h = absurd h

pub refused_from_first : (old middle new : FolderSeen) (loaded : Loaded) (name : List ℕ) → FaultsNeverFall old middle → middle.files ≡ old.files
    → (s : Status) → IsRefused middle new loaded name s → IsRefused old new loaded name s
refused_from_first old middle new loaded name later same (Status.Incoherent part iri) h = (h.0, h.1, later_told old.files middle.files _ same h.2)
refused_from_first old middle new loaded name later same (Status.WriteFault Target.Evidence) h = (
  h.0,
  h.1,
  h.2,
  h.3,
  (rose_later (old.write_faults name) (middle.write_faults name) (new.write_faults name) (later.writes name) h.4.0, later_told old.files middle.files _ same h.4.1),
)
refused_from_first old middle new loaded name later same Status.OutOfMemory h = h ∙ same
refused_from_first old middle new loaded name later same (Status.WriteFault Target.Out) h = absurd h
refused_from_first old middle new loaded name later same (Status.WriteFault Target.Output) h = absurd h
refused_from_first old middle new loaded name later same _ h = absurd h

-- what was read, and what is found or kept of it
module _ (IsRead : Loaded → Type 0) (loaded : Loaded) (read : IsRead loaded) where
  abbrev pub incoherent_in : (part : Part) (iri : List ℕ) → IsFound loaded part iri → IsIncoherentCase IsRead part iri
  incoherent_in part iri found = record { loaded = loaded; read = read; class = found.class; first = found.first; named = found.named }

  module _ (results : Results) (are : AreResultsOf loaded results) where
    abbrev pub outcome_in : Outcome IsRead
    outcome_in = record { loaded = loaded; read = read; coherent = are.is_kept.coherent; kept = are.kept; repair = are.is_kept.repair }

    abbrev pub repairable_in : IsRepairable IsRead
    repairable_in = record { loaded = loaded; read = read; coherent = are.is_kept.coherent }

    pub put_short : (run : Run) → IfSome run.output.got (λ got. HasGotFront got run.output_after.got (string_bytes results.line)) → IsPutShort run IsRead
    put_short run put = (outcome_in, subst (λ (t : List ℕ). IfSome run.output.got (λ got. HasGotFront got run.output_after.got t)) are.line put)

module _ (run : Run) (asked : Request) (limits : Limits) (loaded : Loaded) (read : IsReadIn run asked limits loaded) where
  -- how a run ends whose documents leave a class empty
  abbrev incoherent : (part : Part) (iri : List ℕ) (bytes : List ℕ) → IsRefusal loaded bytes part iri → IsIncoherentCase (IsReadIn run asked limits) part iri
  incoherent part iri bytes r = incoherent_in (IsReadIn run asked limits) loaded read part iri r.found

  abbrev Refuses : Status → Type 0
  Refuses s = IsRefused run.folder run.folder_after loaded asked.names.evidence s

  pub refused_stop : (s : Status) → Refuses s → IsStop run asked limits s
  refused_stop (Status.Incoherent part iri) h = incoherent part iri h.0 h.1
  refused_stop (Status.WriteFault Target.Evidence) h = (h.4.0, inr (h.1, h.2, incoherent h.1 h.2 h.0 h.3))
  refused_stop Status.OutOfMemory h = tt
  refused_stop (Status.WriteFault Target.Output) h = absurd h
  refused_stop (Status.WriteFault Target.Out) h = absurd h
  refused_stop _ h = absurd h

  pub refused_quiet : (seen : SinkSeen) (s : Status) → Refuses s → IsQuiet seen seen s
  refused_quiet seen (Status.WriteFault Target.Output) h = absurd h
  refused_quiet seen (Status.WriteFault Target.Out) h = absurd h
  refused_quiet seen (Status.WriteFault Target.Evidence) h = refl
  refused_quiet seen Status.OutOfMemory h = refl
  refused_quiet seen _ h = refl

  pub refused_files : (s : Status) → Refuses s → FilesStand run asked limits s
  refused_files (Status.Incoherent part iri) h = (incoherent part iri h.0 h.1, h.0, h.1.evidence, h.2)
  refused_files (Status.WriteFault Target.Evidence) h = (h.0, inr (h.1, h.2, incoherent h.1 h.2 h.0 h.3, h.3.evidence), h.4.1)
  refused_files Status.OutOfMemory h = inl h
  refused_files (Status.WriteFault Target.Output) h = absurd h
  refused_files (Status.WriteFault Target.Out) h = absurd h
  refused_files _ h = absurd h

  -- what was read, and what is kept of it
  module _ (results : Results) (are : AreResultsOf loaded results) where
    abbrev outcome : Outcome (IsReadIn run asked limits)
    outcome = outcome_in (IsReadIn run asked limits) loaded read results are

    abbrev shown : Shown (IsReadIn run asked limits)
    shown = record { outcome = outcome; evidence = results.evidence; valid = are.evidence }

    repairable : IsRepairable (IsReadIn run asked limits)
    repairable = repairable_in (IsReadIn run asked limits) loaded read results are

    holds : AreWritten run asked.names (written_of results) → IfTold run (λ files. HoldsBoth run files asked.names results.evidence (out_text_of loaded are.kept))
    holds written = subst (λ (t : List ℕ). IfTold run (λ files. HoldsBoth run files asked.names results.evidence t)) are.text written

    pub done : AreWritten run asked.names (written_of results) → HasGot run (string_bytes results.line) → IsDone run asked limits
    done written put = (shown, holds written, subst (HasGot run) are.line put)

    torn : IfTold run (λ files. HoldsEvidence run files asked.names results.evidence ⊎ HoldsFront (with_file files asked.names.evidence results.evidence) run.folder_after.files asked.names.out results.text) → IsTorn run asked limits
    torn written = (shown, subst (λ (t : List ℕ). IfTold run (λ files. HoldsEvidence run files asked.names results.evidence ⊎ HoldsFront (with_file files asked.names.evidence results.evidence) run.folder_after.files asked.names.out t)) are.text written)

    abbrev Stops : Status → Type 0
    Stops s = IsResultStop run asked.names (written_of results) s

    pub write_files : (s : Status) → Stops s → FilesStand run asked limits s
    write_files (Status.WriteFault Target.Evidence) h = (results.evidence, inl (outcome, are.evidence), h.1)
    write_files (Status.WriteFault Target.Out) h = torn h.1
    write_files (Status.WriteFault Target.Output) h = (shown, holds h.1)
    write_files Status.OutOfMemory h = ⊎_elim inl (λ k. inr (⊎_elim (λ told. inl (results.evidence, inl (outcome, are.evidence), told)) (λ written. inr (inl (shown, holds written))) k)) h.0
    write_files _ h = absurd h

    pub write_stop : (s : Status) → Stops s → IsStop run asked limits s
    write_stop (Status.WriteFault Target.Evidence) h = (h.0, inl repairable)
    write_stop (Status.WriteFault Target.Out) h = (h.0, repairable)
    write_stop (Status.WriteFault Target.Output) h = (h.0, repairable, put_short (IsReadIn run asked limits) loaded read results are run h.2)
    write_stop Status.OutOfMemory h = tt
    write_stop _ h = absurd h

    pub write_quiet : (s : Status) → Stops s → IsQuiet run.output run.output_after s
    write_quiet (Status.WriteFault Target.Evidence) h = h.2
    write_quiet (Status.WriteFault Target.Out) h = h.2
    write_quiet (Status.WriteFault Target.Output) h = tt
    write_quiet Status.OutOfMemory h = h.1
    write_quiet _ h = absurd h
