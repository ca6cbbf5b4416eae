-- One step: a fact that a rule gives, and walks over partners.
use Rattle.std.specs.Prelude.{◌≡◌, ◌≢◌, ◌<◌, ◌≤◌, ℕ, Bool, true, false, List, Contains, length, ⊤}
use Rattle.concept_store.specs.Nodes.{IsNode}
use Rattle.concept_store.specs.declared.types.Node.{Node}
use Rattle.concept_store.specs.declared.types.Node.TheVariants.{And, Exists}
use Rattle.fact_table.specs.declared.types.Fact.{Fact}
use Rattle.fact_table.specs.declared.types.Fact.TheVariants.{Sub, Link}
use Rattle.fact_table.specs.declared.types.Proved.{Proved}
use Rattle.fact_table.specs.declared.types.FactGroup.{FactGroup}
use Rattle.fact_table.specs.declared.types.Reason.{Reason}
use Rattle.fact_table.specs.declared.types.Rule.{Rule}
use Rattle.fact_table.specs.declared.types.Source.{Source}
use Rattle.concept_store.specs.declared.types.NodeAxiom.{NodeAxiom}
use Rattle.el_rules.specs.Saying.{Joins, MakesReflexive, Separates}
use Rattle.el_rules.specs.Theories.{IsNamedBy}
use Rattle.el_rules.specs.Following.{FollowsByReason, IsEarlier, NamesNoMore}
use Rattle.case_file.specs.Cases.{theory_of}
use Rattle.case_tables.specs.declared.types.Operand.{Operand}
use Rattle.rule_steps.specs.Counted.{GroundsView, IsCounted, nodes_of}
use Rattle.rule_steps.specs.Answering.{IsAt}
use Rattle.rule_steps.specs.declared.placed.PlacedSub.{PlacedSub}
use Rattle.rule_steps.specs.declared.placed.PlacedLink.{PlacedLink}
use Rattle.rule_steps.specs.declared.walks.Joined.{Joined}

-- the item follows by its reason from the items of a list
pub record IsDerivedFrom (grounds : GroundsView) (items : List Proved) (item : Proved)
    : Type 0 where
  pub follows : FollowsByReason (nodes_of grounds) (theory_of grounds.case) grounds.part
      grounds.ranks items (length items) item
  pub names : NamesNoMore item.reason.rule item.reason.first item.reason.second item.reason.source

-- a link is by one of this number of roles
abbrev pub IsLinkWithin : ℕ → Fact → Type 0
IsLinkWithin roles (Sub a b) = ⊤
IsLinkWithin roles (Link a r b) = r < roles

-- what a node is made of is there, for what is within the node
pub record IsOpened (nodes : List Node) (facts : List Fact) (a n : ℕ) : Type 0 where
  pub left : (c d : ℕ) → IsNode nodes n (And c d) → Contains facts (Sub a c)
  pub right : (c d : ℕ) → IsNode nodes n (And c d) → Contains facts (Sub a d)
  pub out : (r c : ℕ) → IsNode nodes n (Exists r c) → Contains facts (Link a r c)

-- the subsumption, or the link, is at its place
abbrev pub IsSubAt : PlacedSub → List Fact → Type 0
IsSubAt sub facts = IsAt sub.place facts (Sub sub.low sub.high)

abbrev pub IsLinkAt : PlacedLink → List Fact → Type 0
IsLinkAt link facts = IsAt link.place facts (Link link.from link.role link.into)

-- the elements of a group that a walk down from a bound has met are so
abbrev pub AreMetFrom : (Fact → FactGroup) → List Fact → FactGroup → ℕ → ℕ → (Fact → Type 0)
    → Type 0
AreMetFrom key facts group below bound P = (k : ℕ) (fact : Fact) → below ≤ k → k < bound
    → IsAt k facts fact → key fact ≡ group → P fact

-- what a link from a node gives with the fact at a place: that the node is within another, or
-- leads on, by the rule and the source that are given
abbrev pub joined_fact : Joined → ℕ → Fact
joined_fact (Joined.Filler node) a = Sub a node
joined_fact Joined.Nothing a = Sub a 1
joined_fact (Joined.Onward role end source) a = Link a role end

abbrev pub joined_reason : Joined → ℕ → ℕ → Reason
joined_reason (Joined.Filler node) first second =
    record { first = first; second = second; source = Source.Nothing; rule = Rule.Into }
joined_reason Joined.Nothing first second =
    record { first = first; second = second; source = Source.Nothing; rule = Rule.Void }
joined_reason (Joined.Onward role end source) first second =
    record { first = first; second = second; source = source; rule = Rule.Chain }

abbrev pub joined_item : Joined → ℕ → ℕ → ℕ → Proved
joined_item joined a first second =
    record { fact = joined_fact joined a; reason = joined_reason joined first second }

-- each link by the role into the node gives its fact together with this one
abbrev pub CanJoin : GroundsView → ℕ → ℕ → Fact → Joined → Type 0
CanJoin grounds role into here joined = (items : List Proved) (a first second : ℕ)
    → IsEarlier items (length items) first (Link a role into)
    → IsEarlier items (length items) second here
    → IsDerivedFrom grounds items (joined_item joined a first second)

-- the reason of an intersection from a part of it at a place, and from the other part
abbrev pub whole_reason : Bool → ℕ → ℕ → Reason
whole_reason true place other =
    record { first = place; second = other; source = Source.Nothing; rule = Rule.Both }
whole_reason false place other =
    record { first = other; second = place; source = Source.Nothing; rule = Rule.Both }

-- an axiom that counts, of this source, joins the roles
abbrev pub JoinsBy : GroundsView → Source → ℕ → ℕ → ℕ → Type 0
JoinsBy grounds source r s t = (said : NodeAxiom)
    × IsNamedBy (theory_of grounds.case) grounds.part grounds.ranks source said × Joins said r s t

-- one separates the nodes
abbrev pub SeparatesBy : GroundsView → Source → ℕ → ℕ → Type 0
SeparatesBy grounds source c d = (said : NodeAxiom)
    × IsNamedBy (theory_of grounds.case) grounds.part grounds.ranks source said × Separates said c d

-- the operands are at two positions of one axiom
abbrev pub IsApart : Operand → Operand → Type 0
IsApart one other = (one.source ≡ other.source) × (one.position ≢ other.position)

-- each role that an axiom that counts makes reflexive leads from the node to itself
abbrev pub HasReflexive : GroundsView → ℕ → List Fact → Type 0
HasReflexive grounds node facts = (role : ℕ) (said : NodeAxiom) → IsCounted grounds said
    → MakesReflexive said role → Contains facts (Link node role node)
