-- What a worklist over places has done.
use Rattle.std.specs.Prelude.{◌≡◌, ◌<◌, ◌+◌, ℕ, List, Some, Contains, slice_get}
use Rattle.concept_store.specs.declared.types.Node.{Node}
use Rattle.concept_store.specs.declared.types.NodeAxiom.{NodeAxiom}
use Rattle.fact_table.specs.declared.types.Fact.{Fact}
use Rattle.fact_table.specs.declared.types.FactSide.{FactSide}
use Rattle.fact_table.specs.declared.types.Rule.{Rule}
use Rattle.fact_table.specs.Groups.{node_at}
use Rattle.el_rules.specs.Rules.{Gives, premises}
use Rattle.el_rules.specs.Following.{IsPlacedBelow}

-- the fact at a place
abbrev pub IsAt : ℕ → List Fact → Fact → Type 0
IsAt place facts fact = slice_get facts place ≡ Some fact

-- whatever rules that have premises give from facts at places below p is there
abbrev pub AreClosedBelow : List Node → (NodeAxiom → Type 0) → ℕ → List Fact → Type 0
AreClosedBelow nodes Named p facts = (rule : Rule) (fact : Fact) → 0 < premises rule
    → Gives nodes Named (IsPlacedBelow p facts) (IsPlacedBelow p facts) rule fact
    → Contains facts fact

-- whatever the rule gives is there, from the fact at p as its first premise, and from a second one
-- at a place up to p
abbrev pub IsAnsweredFirst : List Node → (NodeAxiom → Type 0) → ℕ → List Fact → Rule → Type 0
IsAnsweredFirst nodes Named p facts rule = (fact : Fact) → 0 < premises rule
    → Gives nodes Named (IsAt p facts) (IsPlacedBelow (p + 1) facts) rule fact
    → Contains facts fact

-- the same with the fact at p as its second premise
abbrev pub IsAnsweredSecond : List Node → (NodeAxiom → Type 0) → ℕ → List Fact → Rule → Type 0
IsAnsweredSecond nodes Named p facts rule = (fact : Fact) → 1 < premises rule
    → Gives nodes Named (IsPlacedBelow (p + 1) facts) (IsAt p facts) rule fact
    → Contains facts fact

-- whatever rules give from the fact at p, and from facts at places up to p, is there
abbrev pub IsAnswered : List Node → (NodeAxiom → Type 0) → ℕ → List Fact → Type 0
IsAnswered nodes Named p facts = (rule : Rule)
    → IsAnsweredFirst nodes Named p facts rule × IsAnsweredSecond nodes Named p facts rule

-- what inclusions among these axioms give from the fact at p is there
abbrev pub IsAnsweredByInclusions : List Node → (NodeAxiom → Type 0) → ℕ → List Fact → Type 0
IsAnsweredByInclusions nodes Named p facts =
    IsAnsweredFirst nodes Named p facts Rule.Incl × IsAnsweredFirst nodes Named p facts Rule.Role

abbrev pub IsNoFact : Fact → Type 0
IsNoFact fact = ⊥

-- whatever the rules give from no fact for this node is there
abbrev pub IsBegun : List Node → (NodeAxiom → Type 0) → ℕ → List Fact → Type 0
IsBegun nodes Named node facts = (rule : Rule) (fact : Fact) → node_at FactSide.From fact ≡ node
    → Gives nodes Named IsNoFact IsNoFact rule fact → Contains facts fact

-- so it is for each node below n
abbrev pub AreBegunBelow : List Node → (NodeAxiom → Type 0) → ℕ → List Fact → Type 0
AreBegunBelow nodes Named n facts = (node : ℕ) → node < n → IsBegun nodes Named node facts
