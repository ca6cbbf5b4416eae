-- What is decided of a case: which class is empty, and whether rows leave one empty.
use Rattle.std.specs.Prelude.{◌≡◌, ◌<◌, ℕ, Bool, true, false, List, []}
use Rattle.el_logic.specs.declared.types.Part.{Part}
use Rattle.fact_table.specs.declared.types.Fact.TheVariants.{Sub}
use Rattle.case_file.specs.Cases.{CaseView, IsMustHave}
use Rattle.case_file.specs.Incoherence.{IsEmptyFor, IsIncoherentFor}
use Rattle.derivation.specs.declared.types.Step.{Step}
use Rattle.derivation.specs.Steps.{IsGoodDerivation, EndsIn}
use Rattle.saturate.specs.declared.types.StartFault.{StartFault}
use Rattle.saturate.specs.declared.types.StartFault.TheVariants as Fault
use Rattle.saturate.specs.declared.types.Verdict.{Verdict}
use Rattle.saturate.specs.declared.types.Verdict.TheVariants.{No, Yes}

-- of the nodes that must have a member, in order, this is the first that the axioms of the part and
-- of the rows with these ranks leave empty
pub record IsFirstEmptyFor (case : CaseView) (part : Part) (ranks : List ℕ) (node : ℕ) : Type 0 where
  pub must_have : IsMustHave case node
  pub empty : IsEmptyFor case part ranks node
  pub none_before : (other : ℕ) → other < node → IsMustHave case other
      → ¬ (IsEmptyFor case part ranks other)

-- without rows, the part is the first, in the order LEFT, RIGHT, both, that leaves one empty
abbrev pub IsFirstIncoherentPart : CaseView → Part → Type 0
IsFirstIncoherentPart case Part.Left = IsIncoherentFor case Part.Left []
IsFirstIncoherentPart case Part.Right =
    ¬ (IsIncoherentFor case Part.Left []) × IsIncoherentFor case Part.Right []
IsFirstIncoherentPart case Part.Both = ¬ (IsIncoherentFor case Part.Left [])
    × ¬ (IsIncoherentFor case Part.Right []) × IsIncoherentFor case Part.Both []

-- the node is the first that the part leaves empty, without rows, and the steps are a good
-- derivation from the part that ends in this
pub record ShowsFirstEmpty (case : CaseView) (part : Part) (node : ℕ) (steps : List Step)
    : Type 0 where
  pub first : IsFirstEmptyFor case part [] node
  pub good : IsGoodDerivation case part [] steps
  pub ends : EndsIn steps (Sub node 1)

abbrev pub start_ran_out : StartFault → Bool
start_ran_out Fault.OutOfMemory = true
start_ran_out _ = false

-- the documents are incoherent: the first part that is, its first empty class, and a derivation
abbrev pub IsStartFault : CaseView → StartFault → Type 0
IsStartFault case (Fault.Incoherent part class steps) =
    IsFirstIncoherentPart case part × ShowsFirstEmpty case part class steps
IsStartFault case Fault.OutOfMemory = ⊥

-- both documents and the rows with these ranks are incoherent, with a derivation that shows it; or
-- they are coherent, with a closed table of them
abbrev pub IsVerdict : CaseView → List ℕ → Verdict → Type 0
IsVerdict case ranks (No steps) =
    IsIncoherentFor case Part.Both ranks × IsGoodDerivation case Part.Both ranks steps
IsVerdict case ranks (Yes table) = ¬ (IsIncoherentFor case Part.Both ranks)
    × (table.case ≡ case) × (table.ranks ≡ ranks)
