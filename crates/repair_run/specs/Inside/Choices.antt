-- Which rows are kept, and what is written of them.
use Rattle.std.specs.Prelude.{◌≡◌, ℕ, ◌≤◌, List, [], length, string_bytes, Some, ⊤}
use Rattle.el_logic.specs.declared.types.Expr.{Expr}
use Rattle.el_logic.specs.declared.types.Part.{Part}
use Rattle.el_logic.specs.Incoherent.{IsFirstIncoherent}
use Rattle.conflict_logic.specs.Repair.{IsRepair}
use Rattle.case_load.specs.declared.texts.Loaded.{Loaded}
use Rattle.accuse_core.specs.Marks.{front_of, kept_of}
use Rattle.commit_book.specs.Books.{BookView, ranks_of}
use Rattle.run_evidence.specs.Tellable.{IsTellable}
use Rattle.diagnosis.specs.Shares.{IsShared}
use Rattle.diagnosis.specs.declared.rows.KeptRows.{KeptRows}
use Rattle.repair_run.specs.declared.choosing.ChoiceStop.{ChoiceStop}
use Rattle.repair_run.specs.declared.choosing.ChoiceStop.TheVariants as Stop
use Rattle.repair_run.specs.declared.choosing.Results.{Results}
use Rattle.repair_run.specs.Outcomes.{case_in, iri_of_class, keep_in, kept_count, out_text_of, summary_line, AreCoherentTogether, AreIncoherentWith, IsEvidence, IsRefusalEvidence}

-- the case excuses no class and has the classes of the names, its rows are those of the table, and
-- there is evidence of it
pub record IsPlain (loaded : Loaded) : Type 0 where
  pub excused : (case_in loaded).excused ≡ []
  pub classes : (case_in loaded).classes ≡ length loaded.names.classes.names
  pub rows : length (case_in loaded).order ≡ length loaded.table.rows
  pub tellable : IsTellable loaded

-- the documents leave no class empty, and these ranks are kept: those that are not accused
pub record IsKept (loaded : Loaded) (kept : List ℕ) : Type 0 where
  pub coherent : AreCoherentTogether loaded
  pub repair : IsRepair (AreIncoherentWith (case_in loaded)) (length (case_in loaded).order) kept

-- the book is of this case, and in it every rank is decided, with a share for workers
pub record IsDecidedFor (loaded : Loaded) (book : BookView) : Type 0 where
  pub case : book.case ≡ case_in loaded
  pub decided : front_of book.marks ≡ ranks_of book.case
  pub is_kept : IsKept loaded (kept_of book.marks)
  pub shared : IsShared (length (case_in loaded).order) book.entries

-- the rows that have these ranks
pub record IsChoice (loaded : Loaded) (kept : List ℕ) (rows : KeptRows) : Type 0 where
  pub keep : rows.keep.items ≡ keep_in loaded kept
  pub counted : rows.kept ≡ kept_count rows.keep.items
  pub within : rows.kept ≤ length loaded.table.rows
  pub each : length rows.keep.items ≡ length loaded.table.rows

-- EVIDENCE, the text of OUT and the summary
pub record AreResultsOf (loaded : Loaded) (results : Results) : Type 0 where
  pub kept : List ℕ
  pub is_kept : IsKept loaded kept
  pub evidence : IsEvidence loaded (out_text_of loaded kept) results.evidence
  pub text : results.text ≡ out_text_of loaded kept
  pub line : string_bytes results.line ≡ summary_line loaded kept

-- the first part of the documents that leaves a class empty, and the IRI of the first such class
pub record IsFound (loaded : Loaded) (part : Part) (iri : List ℕ) : Type 0 where
  pub class : Expr
  pub first : let case = case_in loaded in
      IsFirstIncoherent case.classes case.properties case.left case.right part class
  pub named : iri_of_class loaded.names.classes.names class ≡ Some iri

-- why no rows are chosen: a part is incoherent, with the evidence of it
abbrev pub IsChoiceStop : Loaded → ChoiceStop → Type 0
IsChoiceStop loaded (Stop.Incoherent part iri evidence) =
    IsFound loaded part iri × IsRefusalEvidence loaded part evidence
IsChoiceStop loaded Stop.OutOfMemory = ⊤
