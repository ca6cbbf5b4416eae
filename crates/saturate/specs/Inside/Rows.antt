-- What the rows that are tested give from the facts of a snapshot.
use Rattle.std.specs.Prelude.{◌≡◌, ◌<◌, ℕ, List, Some, Contains, slice_get, slice_index_or, []}
use Rattle.concept_store.specs.declared.types.NodeAxiom.{NodeAxiom}
use Rattle.fact_table.specs.declared.types.Fact.{Fact}
use Rattle.fact_table.specs.declared.types.Fact.TheVariants.{Sub, Link}
use Rattle.fact_table.specs.declared.types.FactGroup.{FactGroup}
use Rattle.fact_table.specs.declared.types.FactSide.{FactSide}
use Rattle.fact_table.specs.Groups.{group_at}
use Rattle.el_rules.specs.Saying.{Includes, IncludesRole}
use Rattle.saturate.specs.declared.rows.Start.{Start}
use Rattle.rule_steps.specs.Counted.{GroundsView, IsCountedSince, nodes_of}
use Rattle.rule_steps.specs.Answering.{IsAnsweredByInclusions}

-- what the rows from the first rank on give from the fact at a place is there
abbrev pub IsEntered : GroundsView → ℕ → List Fact → ℕ → Type 0
IsEntered grounds first facts place =
    IsAnsweredByInclusions (nodes_of grounds) (IsCountedSince (Some first) grounds) place facts

-- so it is at each place below one
abbrev pub AreAnsweredByRows : GroundsView → ℕ → ℕ → List Fact → Type 0
AreAnsweredByRows grounds first below facts =
    (place : ℕ) → place < below → IsEntered grounds first facts place

-- so it is at each place below one whose fact is such
abbrev pub AreEntered : GroundsView → ℕ → ℕ → (Fact → Type 0) → List Fact → Type 0
AreEntered grounds first below Such facts = (place : ℕ) (fact : Fact) → place < below
    → slice_get facts place ≡ Some fact → Such fact → IsEntered grounds first facts place

-- the fact is of a group
abbrev pub IsOfGroup : FactSide → FactGroup → Fact → Type 0
IsOfGroup side group fact = group_at side fact ≡ group

-- an inclusion gives something from the fact
abbrev pub StartsFrom : NodeAxiom → Fact → Type 0
StartsFrom said (Sub a c) = (d : ℕ) × Includes said c d
StartsFrom said (Link a r b) = (s : ℕ) × IncludesRole said r s

-- one of these axioms does
abbrev pub StartFrom : List NodeAxiom → Fact → Type 0
StartFrom axioms fact = (said : NodeAxiom) × Contains axioms said × StartsFrom said fact

-- one of the axioms of the rows with these ranks does
abbrev pub RowsStartFrom : List (List NodeAxiom) → List ℕ → Fact → Type 0
RowsStartFrom over ranks fact =
    (rank : ℕ) × Contains ranks rank × StartFrom (slice_index_or over rank []) fact

-- the fact is a link by this role
abbrev pub IsLinkBy : ℕ → Fact → Type 0
IsLinkBy role (Sub a c) = ⊥
IsLinkBy role (Link a r b) = r ≡ role

-- what an inclusion starts from: the subsumptions into a node, or the links by a role
abbrev pub IsStart : NodeAxiom → Start → Type 0
IsStart said (Start.Node low) = (fact : Fact) → StartsFrom said fact
    → IsOfGroup FactSide.Into (FactGroup.Subs low) fact
IsStart said (Start.Role role) = (fact : Fact) → StartsFrom said fact → IsLinkBy role fact
