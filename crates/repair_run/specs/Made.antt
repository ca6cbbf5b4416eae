-- What a run over a made case answers. It reads and writes no file.
use Rattle.std.specs.Prelude.{◌≡◌, ◌≢◌, ℕ, List}
use Rattle.text_names.specs.declared.limits.Limits.{Limits}
use Rattle.text_names.specs.declared.place.Place.{Place}
use Rattle.io_edge.specs.Outside.{PutsRose}
use Rattle.io_edge.specs.declared.outside.Role.{Role}
use Rattle.io_edge.specs.declared.outside.Target.{Target}
use Rattle.io_edge.specs.declared.outside.Target.TheVariants as Target
use Rattle.el_logic.specs.declared.types.Part.{Part}
use Rattle.el_logic.specs.declared.types.Side.{Side}
use Rattle.ofn_heads.specs.declared.outside.HeadId.{HeadId}
use Rattle.ofn_axiom.specs.declared.types.Mode.TheVariants.{Strict}
use Rattle.ofn_axiom.specs.declared.fault.DocKind.{DocKind}
use Rattle.sssom_rows.specs.declared.fault.TableFault.{TableFault}
use Rattle.case_maker.specs.MadeCase.{left_text, right_text, table_text}
use Rattle.case_load.specs.Loads.{Inputs, inputs, IsLoaded}
use Rattle.case_load.specs.Faults.{IsFirstLoadFault}
use Rattle.case_load.specs.declared.fault.LimitKind.{LimitKind}
use Rattle.case_load.specs.declared.fault.LimitKind.TheVariants as limit
use Rattle.case_load.specs.declared.fault.LoadFault.{LoadFault}
use Rattle.case_load.specs.declared.fault.LoadFault.TheVariants as load
use Rattle.case_load.specs.declared.texts.Loaded.{Loaded}
use Rattle.status_lines.specs.declared.status.Status.{Status}
use Rattle.status_lines.specs.Runs.{Run, HasGot, IsUntouched}
use Rattle.repair_run.specs.Outcomes.{Outcome, summary_of, IsIncoherentCase, IsRepairable}
use Rattle.repair_run.specs.Run.{IsOrMemory, IsPutShort}

-- the texts of the made case of this size
abbrev pub made_texts : ℕ → Inputs
made_texts size = inputs (left_text size) (right_text size) (table_text size)

-- they are read: two documents, a table, and the case that they make
abbrev pub IsMadeCase : ℕ → Limits → Loaded → Type 0
IsMadeCase size limits = IsLoaded (made_texts size) Strict limits

-- the first fault of the texts
abbrev pub IsMadeFault : ℕ → Limits → LoadFault → Type 0
IsMadeFault size limits = IsFirstLoadFault (made_texts size) Strict limits

-- the output has got the summary of the repair
abbrev pub IsMadeDone : Run → ℕ → Limits → Type 0
IsMadeDone run size limits = (o : Outcome (IsMadeCase size limits)) × HasGot run (summary_of o)

-- all that is known of a run over a made case, by its answer
pub record IsMadeRun (run : Run) (size : ℕ) (limits : Limits) (answer : Status) : Type 0 where
  -- the summary of the repair was put
  pub done : answer ≡ Status.Done → IsMadeDone run size limits
  -- the arguments are a command
  pub words : answer ≢ Status.Words
  -- there are no files
  pub no_read : (file : Role) → answer ≢ Status.ReadFault file
  pub no_bytes : (file : Role) → answer ≢ Status.Limit (limit.Bytes file)
  pub no_write : (target : Target) → answer ≡ Status.WriteFault target → target ≡ Target.Output
  pub files : IsUntouched run
  -- an ontology is no document, and this is the first fault of the texts
  pub syntax : (side : Side) (place : Place) (kind : DocKind)
      → answer ≡ Status.Syntax side place kind
      → IsMadeFault size limits (load.Syntax side place kind)
  pub syntax_answer : (side : Side) (place : Place) (kind : DocKind)
      → IsMadeFault size limits (load.Syntax side place kind)
      → IsOrMemory (Status.Syntax side place kind) answer
  -- an ontology has something outside the profile, and this is the first fault of the texts
  pub profile : (side : Side) (place : Place) (head : HeadId)
      → answer ≡ Status.Profile side place head
      → IsMadeFault size limits (load.Profile side place head)
  pub profile_answer : (side : Side) (place : Place) (head : HeadId)
      → IsMadeFault size limits (load.Profile side place head)
      → IsOrMemory (Status.Profile side place head) answer
  -- the table is no table, and this is the first fault of the texts
  pub table : (fault : TableFault) → answer ≡ Status.Table fault
      → IsMadeFault size limits (load.Table fault)
  pub table_answer : (fault : TableFault)
      → IsMadeFault size limits (load.Table fault) → IsOrMemory (Status.Table fault) answer
  -- the content of a text is larger than a limit, and this is the first fault of the texts
  pub limit : (kind : LimitKind) → answer ≡ Status.Limit kind
      → IsMadeFault size limits (load.Limit kind)
  pub limit_answer : (kind : LimitKind)
      → IsMadeFault size limits (load.Limit kind) → IsOrMemory (Status.Limit kind) answer
  -- the first part of the documents that leaves a class empty, and the first such class
  pub incoherent : (part : Part) (class : List ℕ) → answer ≡ Status.Incoherent part class
      → IsIncoherentCase (IsMadeCase size limits) part class
  pub incoherent_answer : (part : Part) (class : List ℕ)
      → IsIncoherentCase (IsMadeCase size limits) part class
      → IsOrMemory (Status.Incoherent part class) answer
  -- the summary could not be put; the documents leave no class empty
  pub output_fault : answer ≡ Status.WriteFault Target.Output
      → PutsRose run.output run.output_after × IsRepairable (IsMadeCase size limits)
      × IsPutShort run (IsMadeCase size limits)
  -- if no put failed, and the texts are read and leave no class empty, the run is done
  pub complete : ¬ (PutsRose run.output run.output_after)
      → IsRepairable (IsMadeCase size limits) → IsOrMemory Status.Done answer
