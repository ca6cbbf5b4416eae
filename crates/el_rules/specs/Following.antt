-- Facts that follow from earlier ones, and facts that are closed.
use Rattle.std.specs.Prelude.{◌≡◌, ℕ, ◌<◌, false, List, Some, slice_get, Contains}
use Rattle.el_logic.specs.declared.types.Part.{Part}
use Rattle.concept_store.specs.declared.types.Node.{Node}
use Rattle.concept_store.specs.declared.types.NodeAxiom.{NodeAxiom}
use Rattle.fact_table.specs.declared.types.Fact.{Fact}
use Rattle.fact_table.specs.declared.types.Rule.{Rule}
use Rattle.fact_table.specs.declared.types.Source.{Source}
use Rattle.fact_table.specs.declared.types.Proved.{Proved}
use Rattle.el_rules.specs.Rules.{Gives, premises, names_axiom}
use Rattle.el_rules.specs.Theories.{Theory, IsNamedBy}

-- the fact at a place below p
abbrev pub IsPlacedBelow : ℕ → List Fact → Fact → Type 0
IsPlacedBelow p facts fact = (k : ℕ) × (k < p) × (slice_get facts k ≡ Some fact)

-- each fact is given from earlier ones
abbrev pub EachFollows : List Node → (NodeAxiom → Type 0) → List Fact → Type 0
EachFollows nodes Named facts = (k : ℕ) (fact : Fact) → slice_get facts k ≡ Some fact
    → (rule : Rule) × Gives nodes Named (IsPlacedBelow k facts) (IsPlacedBelow k facts) rule fact

-- whatever the rules give from the facts is one of them
abbrev pub AreClosed : List Node → (NodeAxiom → Type 0) → List Fact → Type 0
AreClosed nodes Named facts = (rule : Rule) (fact : Fact)
    → Gives nodes Named (Contains facts) (Contains facts) rule fact → Contains facts fact

-- the item at this place, if it is before place k, has the fact
abbrev pub IsEarlier : List Proved → ℕ → ℕ → Fact → Type 0
IsEarlier items k place fact =
    (item : Proved) × (place < k) × (slice_get items place ≡ Some item) × (item.fact ≡ fact)

-- the item at place k follows by its reason: its rule gives its fact from the items at the places
-- and from the axiom that the reason names
abbrev pub FollowsByReason : List Node → Theory → Part → List ℕ → List Proved → ℕ → Proved → Type 0
FollowsByReason nodes theory part ranks items k item =
    Gives nodes (IsNamedBy theory part ranks item.reason.source)
    (IsEarlier items k item.reason.first) (IsEarlier items k item.reason.second)
    item.reason.rule item.fact

-- each item does
abbrev pub EachFollowsByReason : List Node → Theory → Part → List ℕ → List Proved → Type 0
EachFollowsByReason nodes theory part ranks items = (k : ℕ) (item : Proved)
    → slice_get items k ≡ Some item → FollowsByReason nodes theory part ranks items k item

-- what a rule does not start from is not named: numbers are 0, and the source is none
pub record NamesNoMore (rule : Rule) (first second : ℕ) (source : Source) : Type 0 where
  pub first_is : premises rule < 1 → first ≡ 0
  pub second_is : premises rule < 2 → second ≡ 0
  pub source_is : names_axiom rule ≡ false → source ≡ Source.Nothing
