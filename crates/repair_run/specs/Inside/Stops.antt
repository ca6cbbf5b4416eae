-- Why a run stops short of being done, and what its steps leave.
use Rattle.std.specs.Prelude.{◌≡◌, ◌≢◌, ◌⊎◌, ℕ, ◌≤◌, Bool, false, List, Some, IfSome, string_bytes, ⊤}
use Rattle.text_names.specs.declared.limits.Limits.{Limits}
use Rattle.io_edge.specs.Outside.{FolderSeen, SinkSeen, WritesRose, PutsRose, HoldsFront, HasGotFront, with_file}
use Rattle.io_edge.specs.declared.outside.Target.{Target}
use Rattle.io_edge.specs.declared.outside.Target.TheVariants as Target
use Rattle.ofn_axiom.specs.declared.types.Mode.TheVariants.{ElPart}
use Rattle.case_load.specs.Faults.{is_outside}
use Rattle.case_load.specs.Folders.{IsFirstFileFault}
use Rattle.case_load.specs.declared.fault.LoadFault.{LoadFault}
use Rattle.case_load.specs.declared.fault.LoadFault.TheVariants as load
use Rattle.case_load.specs.declared.texts.Loaded.{Loaded}
use Rattle.command_words.specs.declared.types.FileNames.{FileNames}
use Rattle.command_words.specs.declared.types.WordsFault.{WordsFault}
use Rattle.command_words.specs.declared.types.WordsFault.TheVariants as words
use Rattle.status_lines.specs.declared.status.Status.{Status}
use Rattle.status_lines.specs.Runs.{Run, IfTold}
use Rattle.repair_run.specs.declared.choosing.Results.{Results}
use Rattle.repair_run.specs.declared.request.Request.{Request}
use Rattle.repair_run.specs.Outcomes.{inputs_named, IsDecided, IsIncoherentCase, IsRefusalEvidence, IsRepairable}
use Rattle.repair_run.specs.Run.{HoldsBoth, HoldsEvidence, IsPutShort, IsReadIn}
use Rattle.repair_run.specs.Made.{IsMadeCase, IsMadeFault}
use Rattle.repair_run.specs.Inside.Choices.{IsFound}
use Rattle.el_logic.specs.declared.types.Part.{Part}

-- the answer to words that are not read
abbrev pub answer_to : WordsFault → Status
answer_to words.Usage = Status.Words
answer_to words.OutOfMemory = Status.OutOfMemory

-- the first fault of the files; with `--el-part` nothing is outside the profile
pub record IsFileStop (old new : FolderSeen) (asked : Request) (limits : Limits)
    (fault : LoadFault) : Type 0 where
  pub first : IsFirstFileFault old new (inputs_named asked.names) asked.mode limits fault
  pub inside : asked.mode ≡ ElPart → is_outside fault ≡ false

-- why nothing is loaded, if this is so of a fault
abbrev pub IsLoadStop : (LoadFault → Type 0) → Status → Type 0
IsLoadStop IsFault (Status.ReadFault file) = IsFault (load.ReadFault file)
IsLoadStop IsFault (Status.Syntax side place kind) = IsFault (load.Syntax side place kind)
IsLoadStop IsFault (Status.Profile side place head) = IsFault (load.Profile side place head)
IsLoadStop IsFault (Status.Table fault) = IsFault (load.Table fault)
IsLoadStop IsFault (Status.Limit kind) = IsFault (load.Limit kind)
IsLoadStop IsFault Status.OutOfMemory = ⊤
IsLoadStop IsFault _ = ⊥

-- why a run stops, from what is so of a fault, of what is read and of a target not written
abbrev pub IsStopBy : (LoadFault → Type 0) → (Loaded → Type 0) → (Target → Type 0) → Status → Type 0
IsStopBy IsFault IsRead IsShort (Status.Incoherent part iri) = IsIncoherentCase IsRead part iri
IsStopBy IsFault IsRead IsShort (Status.WriteFault target) = IsShort target
IsStopBy IsFault IsRead IsShort answer = IsLoadStop IsFault answer

-- how a write of a run over files fails
abbrev pub IsWriteShort : Run → Request → Limits → Target → Type 0
IsWriteShort run asked limits Target.Out =
    WritesRose run.folder run.folder_after asked.names.out
    × IsRepairable (IsReadIn run asked limits)
IsWriteShort run asked limits Target.Output =
    PutsRose run.output run.output_after × IsRepairable (IsReadIn run asked limits)
    × IsPutShort run (IsReadIn run asked limits)
IsWriteShort run asked limits Target.Evidence =
    WritesRose run.folder run.folder_after asked.names.evidence
    × IsDecided (IsReadIn run asked limits)

-- why a run over files stops
abbrev pub IsStop : Run → Request → Limits → Status → Type 0
IsStop run asked limits =
    IsStopBy (IsFileStop run.folder run.folder_after asked limits) (IsReadIn run asked limits)
    (IsWriteShort run asked limits)

-- how the put of a run over a made case fails
abbrev pub IsMadeShort : Run → ℕ → Limits → Target → Type 0
IsMadeShort run size limits Target.Output =
    PutsRose run.output run.output_after × IsRepairable (IsMadeCase size limits)
    × IsPutShort run (IsMadeCase size limits)
IsMadeShort run size limits _ = ⊥

-- why a run over a made case stops
abbrev pub IsMadeStop : Run → ℕ → Limits → Status → Type 0
IsMadeStop run size limits =
    IsStopBy (IsMadeFault size limits) (IsMadeCase size limits) (IsMadeShort run size limits)

-- how the output stands before the line of a refusal: nothing was put, but what a fault let through
-- of the summary
abbrev pub IsQuiet : SinkSeen → SinkSeen → Status → Type 0
IsQuiet old new (Status.WriteFault Target.Output) = ⊤
IsQuiet old new Status.OutOfMemory = new.got ≡ old.got
IsQuiet old new _ = new ≡ old

-- how the writing of EVIDENCE alone may stop
abbrev pub IsEvidenceStop : FolderSeen → FolderSeen → List ℕ → List ℕ → Status → Type 0
IsEvidenceStop old new name evidence (Status.WriteFault Target.Evidence) =
    WritesRose old new name
    × IfSome old.files (λ files. (new.files ≡ Some files) ⊎ HoldsFront files new.files name evidence)
IsEvidenceStop old new name evidence Status.OutOfMemory = new.files ≡ old.files
IsEvidenceStop old new name evidence _ = ⊥

-- a part is incoherent, and these bytes are the evidence
pub record IsRefusal (loaded : Loaded) (bytes : List ℕ) (part : Part) (iri : List ℕ) : Type 0 where
  pub found : IsFound loaded part iri
  pub evidence : IsRefusalEvidence loaded part bytes

-- what a run answers whose documents are incoherent, after EVIDENCE was written or could not be
abbrev pub IsRefused : FolderSeen → FolderSeen → Loaded → List ℕ → Status → Type 0
IsRefused old new loaded name (Status.Incoherent part iri) =
    (bytes : List ℕ) × IsRefusal loaded bytes part iri
    × IfSome old.files (λ files. new.files ≡ Some (with_file files name bytes))
IsRefused old new loaded name (Status.WriteFault Target.Evidence) =
    (bytes : List ℕ) × (part : Part) × (iri : List ℕ) × IsRefusal loaded bytes part iri
    × IsEvidenceStop old new name bytes (Status.WriteFault Target.Evidence)
IsRefused old new loaded name Status.OutOfMemory = new.files ≡ old.files
IsRefused old new loaded name _ = ⊥

-- how the put of the summary may stop
abbrev pub IsPutStop : SinkSeen → SinkSeen → List ℕ → Status → Type 0
IsPutStop old new line (Status.WriteFault Target.Output) =
    PutsRose old new × IfSome old.got (λ got. HasGotFront got new.got line)
IsPutStop old new line Status.OutOfMemory = new.got ≡ old.got
IsPutStop old new line _ = ⊥

-- how the writing of OUT and of the summary may stop
abbrev pub IsWriteStop : Run → List ℕ → List ℕ → List ℕ → Status → Type 0
IsWriteStop run name text line (Status.WriteFault Target.Out) =
    WritesRose run.folder run.folder_after name
    × IfTold run (λ files. (run.folder_after.files ≡ Some files)
    ⊎ HoldsFront files run.folder_after.files name text)
    × (run.output_after ≡ run.output)
IsWriteStop run name text line (Status.WriteFault Target.Output) =
    PutsRose run.output run.output_after
    × IfTold run (λ files. run.folder_after.files ≡ Some (with_file files name text))
    × IfSome run.output.got (λ got. HasGotFront got run.output_after.got line)
IsWriteStop run name text line Status.OutOfMemory =
    ((run.folder_after.files ≡ run.folder.files)
    ⊎ IfTold run (λ files. run.folder_after.files ≡ Some (with_file files name text)))
    × (run.output_after.got ≡ run.output.got)
IsWriteStop run name text line _ = ⊥

-- what is written: EVIDENCE, OUT and the summary
pub record Written : Type 0 where
  pub evidence : List ℕ
  pub text : List ℕ
  pub line : List ℕ

abbrev pub written_of : Results → Written
written_of results =
    record { evidence = results.evidence; text = results.text; line = string_bytes results.line }

-- EVIDENCE and OUT hold it, and no other file has changed
abbrev pub AreWritten : Run → FileNames → Written → Type 0
AreWritten run names w = IfTold run (λ files. HoldsBoth run files names w.evidence w.text)

-- how the writing of all of it may stop
abbrev pub IsResultStop : Run → FileNames → Written → Status → Type 0
IsResultStop run names w (Status.WriteFault Target.Evidence) =
    WritesRose run.folder run.folder_after names.evidence
    × IfTold run (λ files. (run.folder_after.files ≡ Some files)
    ⊎ HoldsFront files run.folder_after.files names.evidence w.evidence)
    × (run.output_after ≡ run.output)
IsResultStop run names w (Status.WriteFault Target.Out) =
    WritesRose run.folder run.folder_after names.out
    × IfTold run (λ files. HoldsEvidence run files names w.evidence
    ⊎ HoldsFront (with_file files names.evidence w.evidence) run.folder_after.files names.out w.text)
    × (run.output_after ≡ run.output)
IsResultStop run names w (Status.WriteFault Target.Output) =
    PutsRose run.output run.output_after
    × IfTold run (λ files. HoldsBoth run files names w.evidence w.text)
    × IfSome run.output.got (λ got. HasGotFront got run.output_after.got w.line)
IsResultStop run names w Status.OutOfMemory =
    ((run.folder_after.files ≡ run.folder.files)
    ⊎ (IfTold run (λ files. HoldsEvidence run files names w.evidence)
    ⊎ IfTold run (λ files. HoldsBoth run files names w.evidence w.text)))
    × (run.output_after.got ≡ run.output.got)
IsResultStop run names w _ = ⊥
