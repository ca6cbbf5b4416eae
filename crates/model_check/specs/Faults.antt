-- Why an interpretation is no model of a case.
use Rattle.std.specs.Prelude.{◌≡◌, ℕ, ◌<◌, ◌++◌, ◌⊎◌, Bool, true, false, List, [], ◌∷◌, map, flat_map, slice_index_or, All}
use Rattle.byte_words.specs.Faults.{OrOutOfMemory}
use Rattle.el_logic.specs.declared.types.Axiom.{Axiom}
use Rattle.el_logic.specs.declared.types.Interp.{Interp}
use Rattle.el_logic.specs.declared.types.Part.{Part}
use Rattle.el_logic.specs.Meaning.{IsInterp, IsMember, Holds}
use Rattle.fact_table.specs.declared.types.Source.{Source}
use Rattle.case_file.specs.Cases.{CaseView, IsMustHave, row_at}
use Rattle.case_file.specs.Incoherence.{name_of, axioms_for}
use Rattle.case_tables.specs.Keyed.{numbered_from}
use Rattle.model_check.specs.declared.types.ModelFault.{ModelFault}
use Rattle.model_check.specs.declared.types.ModelFault.TheVariants as fault

-- the axioms of the row with this rank
abbrev pub row_ranked : CaseView → ℕ → List Axiom
row_ranked case rank = slice_index_or (map (row_at case.rows) case.order) rank []

-- LEFT's axioms, RIGHT's and those of the rows with these ranks, each with its source
abbrev pub sourced_axioms : CaseView → List ℕ → List (Source × Axiom)
sourced_axioms case ranks =
    numbered_from Source.Left 1 case.left ++ numbered_from Source.Right 1 case.right
    ++ flat_map (λ rank. numbered_from (Source.Row rank) 1 (row_ranked case rank)) ranks

-- the source is that of the first of these axioms that doesn't hold
abbrev pub IsFirstFailing : Interp → List (Source × Axiom) → Source → Type 0
IsFirstFailing i [] source = ⊥
IsFirstFailing i (one ∷ others) source =
    (¬ (Holds i one.1) × (one.0 ≡ source)) ⊎ (Holds i one.1 × IsFirstFailing i others source)

-- of the nodes that must have a member, this is the first without one
pub record IsFirstEmpty (case : CaseView) (i : Interp) (node : ℕ) : Type 0 where
  pub must : IsMustHave case node
  pub empty : (x : ℕ) → ¬ (IsMember i x (name_of node))
  pub before : (other : ℕ) → other < node → IsMustHave case other → (x : ℕ) × IsMember i x (name_of other)

abbrev pub model_ran_out : ModelFault → Bool
model_ran_out fault.OutOfMemory = true
model_ran_out _ = false

abbrev pub Spoils : CaseView → List ℕ → Interp → ModelFault → Type 0
Spoils case ranks i fault.Form = ¬ (IsInterp case.classes case.properties i)
Spoils case ranks i (fault.Axiom source) =
    IsInterp case.classes case.properties i × IsFirstFailing i (sourced_axioms case ranks) source
Spoils case ranks i (fault.Class node) =
    IsInterp case.classes case.properties i
    × All (Holds i) (axioms_for case Part.Both ranks)
    × IsFirstEmpty case i node
Spoils case ranks i fault.OutOfMemory = ⊥

-- the first of these faults, or memory ran out
abbrev pub IsModelFault : CaseView → List ℕ → Interp → ModelFault → Type 0
IsModelFault case ranks i found = OrOutOfMemory model_ran_out (Spoils case ranks i) found
