-- What valid evidence shows.
use Rattle.std.specs.Prelude.{◌≡◌, ℕ, ◌==◌, Bool, List, length, map, slice_index}
use Rattle.std.specs.List.{list_any, range_with_len}
use Rattle.el_logic.specs.declared.types.Part.{Part}
use Rattle.el_logic.specs.Incoherent.{IsIncoherent}
use Rattle.conflict_logic.specs.Repair.{IsRepair}
use Rattle.case_file.specs.Cases.{CaseView}
use Rattle.case_file.specs.Incoherence.{axioms_for}
use Rattle.case_load.specs.declared.texts.Loaded.{Loaded}
use Rattle.repaired_table.specs.Repaired.{repaired_text}
use Rattle.valid_evidence.specs.Items.{case_loaded}

-- the axioms of both documents and of the rows with these ranks leave a class empty that must have
-- a member
abbrev pub AreIncoherentWith : CaseView → List ℕ → Type 0
AreIncoherentWith case ranks =
    IsIncoherent case.classes case.properties (axioms_for case Part.Both ranks)

-- for each row of the table, from the first on, whether it has one of these ranks
abbrev pub rows_ranked : List ℕ → List ℕ → List Bool
rows_ranked order ranks =
    map (λ row. list_any (λ rank. slice_index order rank == row) ranks)
    (range_with_len 0 (length order))

-- OUT is the text of the table with exactly those rows that are not accused
pub record IsRepairedOut (loaded : Loaded) (out : List ℕ) : Type 0 where
  pub kept : List ℕ
  pub repair : IsRepair (AreIncoherentWith (case_loaded loaded)) (length (case_loaded loaded).order)
      kept
  pub text : out ≡ repaired_text loaded.table (rows_ranked (case_loaded loaded).order kept)
