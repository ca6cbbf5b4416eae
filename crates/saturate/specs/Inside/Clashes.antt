-- Facts that leave a node empty that must have a member.
use Rattle.std.specs.Prelude.{◌≡◌, ◌<◌, ◌≤◌, ℕ, List, Some, Contains, slice_get}
use Rattle.fact_table.specs.declared.types.Fact.{Fact}
use Rattle.fact_table.specs.declared.types.Fact.TheVariants.{Sub, Link}
use Rattle.case_file.specs.Cases.{CaseView, IsMustHave}

-- the fact puts a node that must have a member within owl:Nothing
abbrev pub IsClash : CaseView → Fact → Type 0
IsClash case (Sub node within) = (within ≡ 1) × IsMustHave case node
IsClash case (Link a r b) = ⊥

-- the fact at this place does
abbrev pub HasClashAt : CaseView → List Fact → ℕ → Type 0
HasClashAt case facts place = (fact : Fact) × (slice_get facts place ≡ Some fact) × IsClash case fact

-- no fact at a place from one on and below another does
abbrev pub AreLiveWithin : CaseView → ℕ → ℕ → List Fact → Type 0
AreLiveWithin case from below facts = (place : ℕ) → from ≤ place → place < below
    → ¬ (HasClashAt case facts place)

-- no fact puts one of the first nodes, if it must have a member, within owl:Nothing
abbrev pub AreLiveNodes : CaseView → ℕ → List Fact → Type 0
AreLiveNodes case count facts = (node : ℕ) → node < count → IsMustHave case node
    → ¬ (Contains facts (Sub node 1))

-- the first node that must have a member and is put within owl:Nothing, and the place of that fact
pub record IsFirstClash (case : CaseView) (facts : List Fact) (node place : ℕ) : Type 0 where
  pub must_have : IsMustHave case node
  pub at : slice_get facts place ≡ Some (Sub node 1)
  pub none_before : AreLiveNodes case node facts
