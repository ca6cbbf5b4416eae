-- What a run over files answers, and how the files and the output stand after it.
use Rattle.std.specs.Prelude.{◌≡◌, ◌≢◌, ◌⊎◌, ℕ, List, Some, IfSome, ⊤}
use Rattle.text_names.specs.declared.limits.Limits.{Limits}
use Rattle.text_names.specs.declared.place.Place.{Place}
use Rattle.io_edge.specs.Outside.{Files, FolderSeen, SinkSeen, ReadsRose, WritesRose, PutsRose, HoldsFront, HasGotFront, with_file}
use Rattle.io_edge.specs.declared.outside.Role.{Role}
use Rattle.io_edge.specs.declared.outside.Target.TheVariants as Target
use Rattle.el_logic.specs.declared.types.Part.{Part}
use Rattle.el_logic.specs.declared.types.Side.{Side}
use Rattle.ofn_heads.specs.declared.outside.HeadId.{HeadId}
use Rattle.ofn_axiom.specs.declared.types.Mode.TheVariants.{ElPart}
use Rattle.ofn_axiom.specs.declared.fault.DocKind.{DocKind}
use Rattle.sssom_rows.specs.declared.fault.TableFault.{TableFault}
use Rattle.case_load.specs.Folders.{IsFirstFileFault}
use Rattle.case_load.specs.declared.fault.LimitKind.{LimitKind}
use Rattle.case_load.specs.declared.fault.LoadFault.{LoadFault}
use Rattle.case_load.specs.declared.fault.LoadFault.TheVariants as load
use Rattle.case_load.specs.declared.texts.Loaded.{Loaded}
use Rattle.status_lines.specs.declared.status.Status.{Status}
use Rattle.status_lines.specs.Lines.{refusal_line}
use Rattle.status_lines.specs.Runs.{Run, IfTold, HasGot, IsLinePut, IsUntouched}
use Rattle.command_words.specs.declared.types.FileNames.{FileNames}
use Rattle.repair_run.specs.declared.request.Request.{Request}
use Rattle.repair_run.specs.Outcomes.{Outcome, inputs_named, out_text, summary_of, AreLoaded, IsDecided, IsEvidence, IsRefusalEvidence, IsIncoherentCase, IsRepairable}

abbrev pub name_of : FileNames → Role → List ℕ
name_of names Role.Left = names.left
name_of names Role.Right = names.right
name_of names Role.Map = names.map
name_of names Role.Out = names.out
name_of names Role.Evidence = names.evidence

-- the first fault of the files: a read that failed or a file that is too long, LEFT before RIGHT
-- before MAP; then LEFT's, RIGHT's and MAP's text, too many nodes, too many roles
abbrev pub IsRunFault : Run → Request → Limits → LoadFault → Type 0
IsRunFault run asked limits fault =
    IsFirstFileFault run.folder run.folder_after (inputs_named asked.names) asked.mode limits fault

-- what the files are read as
abbrev pub IsReadIn : Run → Request → Limits → Loaded → Type 0
IsReadIn run asked limits = AreLoaded run.folder asked limits

-- EVIDENCE holds these bytes, and no other file has changed
abbrev pub HoldsEvidence : Run → Files → FileNames → List ℕ → Type 0
HoldsEvidence run files names evidence =
    run.folder_after.files ≡ Some (with_file files names.evidence evidence)

-- EVIDENCE and OUT hold these bytes, and no other file has changed
abbrev pub HoldsBoth : Run → Files → FileNames → List ℕ → List ℕ → Type 0
HoldsBoth run files names evidence out =
    run.folder_after.files ≡ Some (with_file (with_file files names.evidence evidence) names.out out)

-- what is read and kept of it, and evidence of this
pub record Shown (IsRead : Loaded → Type 0) : Type 0 where
  pub outcome : Outcome IsRead
  pub evidence : List ℕ
  pub valid : IsEvidence outcome.loaded (out_text outcome) evidence

-- EVIDENCE holds valid evidence, OUT the repaired table, and no other file has changed
abbrev pub IsWritten : Run → Request → Limits → Type 0
IsWritten run asked limits = (s : Shown (IsReadIn run asked limits))
    × IfTold run (λ files. HoldsBoth run files asked.names s.evidence (out_text s.outcome))

-- and the output has got the summary
abbrev pub IsDone : Run → Request → Limits → Type 0
IsDone run asked limits = (s : Shown (IsReadIn run asked limits))
    × IfTold run (λ files. HoldsBoth run files asked.names s.evidence (out_text s.outcome))
    × HasGot run (summary_of s.outcome)

-- EVIDENCE holds valid evidence; OUT is as before, or holds the first bytes of the repaired table
abbrev pub IsTorn : Run → Request → Limits → Type 0
IsTorn run asked limits = (s : Shown (IsReadIn run asked limits))
    × IfTold run (λ files. HoldsEvidence run files asked.names s.evidence
    ⊎ HoldsFront (with_file files asked.names.evidence s.evidence) run.folder_after.files
    asked.names.out (out_text s.outcome))

-- the bytes are evidence of what the files say: of what is kept, or of a part that is incoherent
abbrev pub IsEitherEvidence : Run → Request → Limits → List ℕ → Type 0
IsEitherEvidence run asked limits bytes =
    ((o : Outcome (IsReadIn run asked limits)) × IsEvidence o.loaded (out_text o) bytes)
    ⊎ ((part : Part) × (class : List ℕ)
    × (i : IsIncoherentCase (IsReadIn run asked limits) part class)
    × IsRefusalEvidence i.loaded part bytes)

-- only EVIDENCE has changed, and it holds the whole of the evidence
abbrev pub IsEvidenceWhole : Run → Request → Limits → Type 0
IsEvidenceWhole run asked limits =
    (bytes : List ℕ) × IsEitherEvidence run asked limits bytes
    × IfTold run (λ files. HoldsEvidence run files asked.names bytes)

-- only EVIDENCE may have changed, and if so it holds the first bytes of the evidence
abbrev pub IsEvidenceTorn : Run → Request → Limits → Type 0
IsEvidenceTorn run asked limits =
    (bytes : List ℕ) × IsEitherEvidence run asked limits bytes
    × IfTold run (λ files. (run.folder_after.files ≡ Some files)
    ⊎ HoldsFront files run.folder_after.files asked.names.evidence bytes)

-- EVIDENCE holds the evidence that the part is incoherent, and no other file has changed
abbrev pub IsRefusalWhole : Run → Request → Limits → Part → List ℕ → Type 0
IsRefusalWhole run asked limits part class =
    (i : IsIncoherentCase (IsReadIn run asked limits) part class) × (bytes : List ℕ)
    × IsRefusalEvidence i.loaded part bytes
    × IfTold run (λ files. HoldsEvidence run files asked.names bytes)

-- the output has got the first bytes of the summary
abbrev pub IsPutShort : Run → (Loaded → Type 0) → Type 0
IsPutShort run IsRead = (o : Outcome IsRead)
    × IfSome run.output.got (λ got. HasGotFront got run.output_after.got (summary_of o))

-- how the files stand if memory ran out: as before, with the evidence, with both, or as a write
-- that failed left them
abbrev pub FilesWithoutMemory : Run → Request → Limits → Type 0
FilesWithoutMemory run asked limits =
    IsUntouched run ⊎ (IsEvidenceWhole run asked limits ⊎ (IsWritten run asked limits
    ⊎ ((WritesRose run.folder run.folder_after asked.names.evidence
    × IsEvidenceTorn run asked limits)
    ⊎ (WritesRose run.folder run.folder_after asked.names.out × IsTorn run asked limits))))

-- how the files stand after an answer
abbrev pub FilesStand : Run → Request → Limits → Status → Type 0
FilesStand run asked limits Status.Done = IsWritten run asked limits
FilesStand run asked limits (Status.Incoherent part class) =
    IsRefusalWhole run asked limits part class
FilesStand run asked limits (Status.WriteFault Target.Evidence) = IsEvidenceTorn run asked limits
FilesStand run asked limits (Status.WriteFault Target.Out) = IsTorn run asked limits
FilesStand run asked limits (Status.WriteFault Target.Output) = IsWritten run asked limits
FilesStand run asked limits Status.OutOfMemory = FilesWithoutMemory run asked limits
FilesStand run asked limits _ = IsUntouched run

-- how the output stands after an answer that is not the good one; if memory ran out, the line may
-- have been put in part
abbrev pub OutputStands : SinkSeen → SinkSeen → Status → Type 0
OutputStands old new Status.Done = ⊤
OutputStands old new (Status.WriteFault Target.Output) = ⊤
OutputStands old new Status.OutOfMemory =
    IfSome old.got (λ got. HasGotFront got new.got (refusal_line Status.OutOfMemory))
OutputStands old new s = IsLinePut old new (refusal_line s)

-- no read, no write and no put failed
pub record HasNoFault (run : Run) (names : FileNames) : Type 0 where
  pub reads : (file : Role) → ¬ (ReadsRose run.folder run.folder_after (name_of names file))
  pub write_evidence : ¬ (WritesRose run.folder run.folder_after names.evidence)
  pub write : ¬ (WritesRose run.folder run.folder_after names.out)
  pub put : ¬ (PutsRose run.output run.output_after)

-- an answer, or that memory ran out in its place
abbrev pub IsOrMemory : Status → Status → Type 0
IsOrMemory answer result = (result ≡ answer) ⊎ (result ≡ Status.OutOfMemory)

-- an answer that comes after the reads, or a fault of a read, or that memory ran out, in its place
abbrev pub IsOrReadStop : Status → Status → Type 0
IsOrReadStop answer result =
    (result ≡ answer) ⊎ (((file : Role) × (result ≡ Status.ReadFault file))
    ⊎ (result ≡ Status.OutOfMemory))

-- the answer to documents that are incoherent, or that the evidence could not be written, or that a
-- read failed or memory ran out, in its place
abbrev pub IsOrEvidenceStop : Status → Status → Type 0
IsOrEvidenceStop answer result =
    IsOrReadStop answer result ⊎ (result ≡ Status.WriteFault Target.Evidence)

-- all that is known of a run over files, by its answer
pub record IsRun (run : Run) (asked : Request) (limits : Limits) (answer : Status)
    : Type 0 where
  -- OUT is the table without exactly the rows that are accused, EVIDENCE shows it, and the summary
  -- was put
  pub done : answer ≡ Status.Done → IsDone run asked limits
  -- the arguments are a command
  pub words : answer ≢ Status.Words
  -- an input could not be read, after those before it were read
  pub read_fault : (file : Role) → answer ≡ Status.ReadFault file
      → IsRunFault run asked limits (load.ReadFault file)
  -- an ontology is no document, and this is the first fault of the files
  pub syntax : (side : Side) (place : Place) (kind : DocKind)
      → answer ≡ Status.Syntax side place kind
      → IsRunFault run asked limits (load.Syntax side place kind)
  pub syntax_answer : (side : Side) (place : Place) (kind : DocKind)
      → IfTold run (λ files. IsRunFault run asked limits (load.Syntax side place kind)
      → IsOrReadStop (Status.Syntax side place kind) answer)
  -- an ontology has something outside the profile, and this is the first fault of the files
  pub profile : (side : Side) (place : Place) (head : HeadId)
      → answer ≡ Status.Profile side place head
      → IsRunFault run asked limits (load.Profile side place head)
  pub profile_answer : (side : Side) (place : Place) (head : HeadId)
      → IfTold run (λ files. IsRunFault run asked limits (load.Profile side place head)
      → IsOrReadStop (Status.Profile side place head) answer)
  -- with `--el-part` nothing is outside the profile
  pub no_profile : asked.mode ≡ ElPart
      → (side : Side) (place : Place) (head : HeadId) → answer ≢ Status.Profile side place head
  -- the table is no table, and this is the first fault of the files
  pub table : (fault : TableFault) → answer ≡ Status.Table fault
      → IsRunFault run asked limits (load.Table fault)
  pub table_answer : (fault : TableFault)
      → IfTold run (λ files. IsRunFault run asked limits (load.Table fault)
      → IsOrReadStop (Status.Table fault) answer)
  -- a file or its content is larger than a limit, and this is the first fault of the files
  pub limit : (kind : LimitKind) → answer ≡ Status.Limit kind
      → IsRunFault run asked limits (load.Limit kind)
  pub limit_answer : (kind : LimitKind)
      → IfTold run (λ files. IsRunFault run asked limits (load.Limit kind)
      → IsOrReadStop (Status.Limit kind) answer)
  -- the first part of the documents that leaves a class empty, and the first such class
  pub incoherent : (part : Part) (class : List ℕ) → answer ≡ Status.Incoherent part class
      → IsIncoherentCase (IsReadIn run asked limits) part class
  pub incoherent_answer : (part : Part) (class : List ℕ)
      → IfTold run (λ files. IsIncoherentCase (IsReadIn run asked limits) part class
      → IsOrEvidenceStop (Status.Incoherent part class) answer)
  -- EVIDENCE could not be written
  pub evidence_fault : answer ≡ Status.WriteFault Target.Evidence
      → WritesRose run.folder run.folder_after asked.names.evidence
      × IsDecided (IsReadIn run asked limits)
  -- OUT could not be written after EVIDENCE was; the documents leave no class empty
  pub write_fault : answer ≡ Status.WriteFault Target.Out
      → WritesRose run.folder run.folder_after asked.names.out
      × IsRepairable (IsReadIn run asked limits)
  -- the summary could not be put after OUT was written; the documents leave no class empty
  pub output_fault : answer ≡ Status.WriteFault Target.Output
      → PutsRose run.output run.output_after × IsRepairable (IsReadIn run asked limits)
      × IsPutShort run (IsReadIn run asked limits)
  -- if nothing failed, and the files are read and leave no class empty, the run is done
  pub complete : IfTold run (λ files. HasNoFault run asked.names
      → IsRepairable (IsReadIn run asked limits) → IsOrMemory Status.Done answer)
  -- how the files stand
  pub files : FilesStand run asked limits answer
