-- What the code looks for.
use Rattle.std.specs.Prelude.{ℕ, List, Option, Some, None, All}
use Rattle.std.specs.List.{flat_map}
use Rattle.el_logic.specs.declared.types.Part.{Part}
use Rattle.el_logic.specs.declared.types.Axiom.{Axiom}
use Rattle.el_logic.specs.declared.types.Interp.{Interp}
use Rattle.el_logic.specs.Meaning.{IsMember, Holds}
use Rattle.fact_table.specs.declared.types.Source.{Source}
use Rattle.case_file.specs.Cases.{CaseView, IsMustHave}
use Rattle.case_file.specs.Incoherence.{name_of, axioms_of_ranks, axioms_for}
use Rattle.case_tables.specs.Keyed.{numbered_from}
use Rattle.model_check.specs.declared.check.Origin.{Origin}
use Rattle.model_check.specs.declared.check.Origin.TheVariants as from
use Rattle.model_check.specs.Faults.{IsFirstFailing, IsFirstEmpty, row_ranked, sourced_axioms}

-- the axiom there with this number
abbrev pub source_at : Origin → ℕ → Source
source_at from.Left number = Source.Left number
source_at from.Right number = Source.Right number
source_at (from.Row rank) number = Source.Row rank number

-- the source of the first of the axioms from there that doesn't hold, if one doesn't
abbrev pub FindsFailing : Interp → Origin → List Axiom → Option Source → Type 0
FindsFailing i origin axioms None = All (Holds i) axioms
FindsFailing i origin axioms (Some source) = IsFirstFailing i (numbered_from (source_at origin) 1 axioms) source

-- the first node that must have a member and has none, if there is one
abbrev pub FindsEmpty : CaseView → Interp → Option ℕ → Type 0
FindsEmpty case i None = (node : ℕ) → IsMustHave case node → (x : ℕ) × IsMember i x (name_of node)
FindsEmpty case i (Some node) = IsFirstEmpty case i node

-- the same of the rows with these ranks
abbrev pub FindsFailingRow : CaseView → Interp → List ℕ → Option Source → Type 0
FindsFailingRow case i ranks None = All (Holds i) (axioms_of_ranks case ranks)
FindsFailingRow case i ranks (Some source) =
    IsFirstFailing i (flat_map (λ rank. numbered_from (Source.Row rank) 1 (row_ranked case rank)) ranks) source

-- and of both documents and the rows
abbrev pub FindsFailingOf : CaseView → Interp → List ℕ → Option Source → Type 0
FindsFailingOf case i ranks None = All (Holds i) (axioms_for case Part.Both ranks)
FindsFailingOf case i ranks (Some source) = IsFirstFailing i (sourced_axioms case ranks) source
