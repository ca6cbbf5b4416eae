-- What saturated facts decide.
use Rattle.std.proofs.Common.{◌≡◌, ◌∙◌, ℕ, ◌<◌, List, [], length, Contains, Option, Some, None, MatchOption, refl, inl, ap, sym, subst, arith}
use Rattle.std.specs.Prelude.{slice_get}
use Rattle.std.proofs.lemmas.Option.{slice_get_within}
use Rattle.el_logic.specs.declared.types.Part.{Part}
use Rattle.fact_table.specs.declared.types.Fact.{Fact}
use Rattle.fact_table.specs.declared.types.Fact.TheVariants.{Sub, Link}
use Rattle.fact_table.specs.declared.types.Proved.{Proved}
use Rattle.fact_table.specs.Lists.{facts_of}
use Rattle.fact_layers.specs.Tops.{Topped, whole}
use Rattle.el_rules.specs.Theories.{IsStated}
use Rattle.el_rules.specs.Following.{EachFollowsByReason, AreClosed}
use Rattle.case_file.specs.Cases.{CaseView, AreRanksOf, IsMustHave, theory_of}
use Rattle.case_file.specs.Incoherence.{IsEmptyFor, IsIncoherentFor}
use Rattle.case_tables.specs.Tables.{TableLists, AreTablesOf}
use Rattle.derivation.specs.declared.types.Step.{Step}
use Rattle.derivation.specs.Steps.{AreGoodSteps, EndsIn, IsGoodDerivation}
use Rattle.closed_model.specs.ClosedTables.{IsClosedTable}
use Rattle.rule_steps.specs.Counted.{GroundsView}
use Rattle.rule_steps.specs.Growing.{facts_in, AreDerived}
use Rattle.saturate.specs.Decisions.{ShowsFirstEmpty}
use Rattle.saturate.specs.Inside.Clashes.{IsClash, HasClashAt, AreLiveNodes, IsFirstClash}
use Rattle.saturate.specs.Inside.Saturated.{IsSaturated, IsLive, grounds_of, table_of}
use Rattle.saturate.proofs.Places.{held_at}
use Rattle.saturate.proofs.ClashLaws.{facts_length, live_facts}

-- a case, a part and ranks, as grounds
abbrev pub grounds_at : CaseView → Part → List ℕ → GroundsView
grounds_at case part ranks = record { case = case; part = part; ranks = ranks }

-- the facts follow from the axioms of the part and of the rows
pub follows_at : (grounds : GroundsView) (case : CaseView) (part : Part) (ranks : List ℕ) (items : List Proved) → grounds ≡ grounds_at case part ranks → AreDerived grounds items
    → EachFollowsByReason case.store.nodes (theory_of case) part ranks items
follows_at grounds case part ranks items is derived = (subst (λ (g : GroundsView). AreDerived g items) is derived).follows

-- and are closed for them
pub closed_at : (grounds : GroundsView) (case : CaseView) (part : Part) (ranks : List ℕ) (layers : Topped) → grounds ≡ grounds_at case part ranks → IsSaturated grounds layers
    → AreClosed case.store.nodes (IsStated (theory_of case) part ranks) (facts_in layers)
closed_at grounds case part ranks layers is saturated = subst (λ (g : GroundsView). IsSaturated g layers) is saturated

-- no ranks are ranks of a case
pub no_ranks : (case : CaseView) (ranks : List ℕ) → ranks ≡ [] → AreRanksOf case ranks
no_ranks case ranks none = subst (AreRanksOf case) (sym none) (record {
  ascending = λ k within. absurd (omega arith);
  below = λ k d within. absurd (omega arith);
})

-- saturated facts without a clash are a closed table
table_at : (case : CaseView) (tables : TableLists) (ranks : List ℕ) (layers : Topped) → AreTablesOf case tables → AreRanksOf case ranks → AreDerived (grounds_of case ranks) (whole layers) → IsLive (grounds_of case ranks) layers
    → IsClosedTable (table_of case tables ranks (whole layers))
table_at case tables ranks layers are_tables are_ranks derived live = record {
  tables = are_tables;
  ranks = are_ranks;
  follow = derived.follows;
  closed = live.closed;
  live = λ node must. live_facts case (facts_in layers) node live.live must;
}

pub live_table : (grounds : GroundsView) (case : CaseView) (tables : TableLists) (ranks : List ℕ) (layers : Topped) → grounds ≡ grounds_of case ranks → AreTablesOf case tables → AreRanksOf case ranks
    → AreDerived grounds (whole layers) → IsLive grounds layers → IsClosedTable (table_of case tables ranks (whole layers))
live_table grounds case tables ranks layers is are_tables are_ranks =
    subst (λ (g : GroundsView). AreDerived g (whole layers) → IsLive g layers → IsClosedTable (table_of case tables ranks (whole layers))) (sym is)
    (table_at case tables ranks layers are_tables are_ranks)

-- the node of a clash
clash_node : (case : CaseView) (facts : List Fact) (place : ℕ) (fact : Fact) → slice_get facts place ≡ Some fact → IsClash case fact → (node : ℕ) × IsMustHave case node × (slice_get facts place ≡ Some (Sub node 1))
clash_node case facts place (Sub node within) at (bottom, must) = (node, must, at ∙ ap (λ n. Some (Sub node n)) bottom)
clash_node case facts place (Link a r b) at clash = absurd clash

pub node_of_clash : (grounds : GroundsView) (case : CaseView) (part : Part) (ranks : List ℕ) (facts : List Fact) (place : ℕ) → grounds ≡ grounds_at case part ranks → HasClashAt grounds.case facts place
    → (node : ℕ) × IsMustHave case node × (slice_get facts place ≡ Some (Sub node 1))
node_of_clash grounds case part ranks facts place is clash =
    let here = subst (λ (g : GroundsView). HasClashAt g.case facts place) is clash in
    clash_node case facts place here.0 here.1 here.2

-- a clash shows incoherence
pub clash_incoherent : (case : CaseView) (part : Part) (ranks : List ℕ) (facts : List Fact) (place : ℕ) → ((node : ℕ) → IsMustHave case node → Contains facts (Sub node 1) → IsEmptyFor case part ranks node)
    → (node : ℕ) × IsMustHave case node × (slice_get facts place ≡ Some (Sub node 1)) → IsIncoherentFor case part ranks
clash_incoherent case part ranks facts place empty (node, must, at) = (node, must, empty node must (held_at facts place (Sub node 1) at))

-- the place is one of the list
pub place_within : (items : List Proved) (place : ℕ) (fact : Fact) → slice_get (facts_of items) place ≡ Some fact → place < length items
place_within items place fact at =
    let within = slice_get_within (facts_of items) place fact at in
    let count = facts_length items in omega arith

-- the trace of a node's emptiness is a good derivation
pub good_trace : (case : CaseView) (part : Part) (ranks : List ℕ) (items : List Proved) (place node : ℕ) (steps : List Step) → AreGoodSteps case part ranks steps
    → ((item : Proved) → slice_get items place ≡ Some item → EndsIn steps item.fact) → IsMustHave case node → (item : Proved) × (slice_get items place ≡ Some item) × (item.fact ≡ Sub node 1) → IsGoodDerivation case part ranks steps × EndsIn steps (Sub node 1)
good_trace case part ranks items place node steps good ends must found =
    let last : EndsIn steps (Sub node 1) = subst (EndsIn steps) found.2 (ends found.0 found.1) in
    (record { good = good; shows = (node, must, last) }, last)

-- no class is empty if no node has a clash
pub none_incoherent : (case : CaseView) (part : Part) (ranks : List ℕ) (facts : List Fact)
    → ((node : ℕ) → ¬ (Contains facts (Sub 0 1)) → ¬ (Contains facts (Sub node 1)) → IsMustHave case node → ¬ (IsEmptyFor case part ranks node))
    → ((node : ℕ) → IsMustHave case node → node < length case.store.nodes) → AreLiveNodes case (length case.store.nodes) facts → ¬ (IsIncoherentFor case part ranks)
none_incoherent case part ranks facts members below live (node, must, empty) =
    members node (live 0 (below 0 (inl refl)) (inl refl)) (live node (below node must) must) must empty

-- the first node with a clash is the first that is empty
pub first_shown : (case : CaseView) (part : Part) (facts : List Fact) (node place : ℕ) (steps : List Step)
    → ((other : ℕ) → ¬ (Contains facts (Sub 0 1)) → ¬ (Contains facts (Sub other 1)) → IsMustHave case other → ¬ (IsEmptyFor case part [] other))
    → (IsMustHave case node → Contains facts (Sub node 1) → IsEmptyFor case part [] node) → IsFirstClash case facts node place
    → IsGoodDerivation case part [] steps × EndsIn steps (Sub node 1) → ShowsFirstEmpty case part node steps
first_shown case part facts node place steps members empty first shown = record {
  first = record {
    must_have = first.must_have;
    empty = empty first.must_have (held_at facts place (Sub node 1) first.at);
    none_before = λ other before must. members other (first.none_before 0 (omega arith) (inl refl)) (first.none_before other before must) must;
  };
  good = shown.0;
  ends = shown.1;
}

-- the fact of the case that was found
pub at_none : {X : Type 0} (found : Option X) (P : Type 0) (R : X → Type 0) → found ≡ None → MatchOption found P R → P
at_none {X} found P R is = subst (λ o. MatchOption o P R → P) (sym is) (λ p. p)

pub at_some : {X : Type 0} (found : Option X) (x : X) (P : Type 0) (R : X → Type 0) → found ≡ Some x → MatchOption found P R → R x
at_some {X} found x P R is = subst (λ o. MatchOption o P R → R x) (sym is) (λ p. p)

-- a part whose first empty class was shown is incoherent
pub shown_incoherent : (case : CaseView) (part : Part) (node : ℕ) (steps : List Step) → ShowsFirstEmpty case part node steps → IsIncoherentFor case part []
shown_incoherent case part node steps shown = (node, shown.first.must_have, shown.first.empty)

-- the same table, whatever its parts are called
pub table_as : (case case' : CaseView) (tables tables' : TableLists) (ranks ranks' : List ℕ) (items : List Proved) → case' ≡ case → tables' ≡ tables → ranks' ≡ ranks
    → IsClosedTable (table_of case tables ranks items) → IsClosedTable (table_of case' tables' ranks' items)
table_as case case' tables tables' ranks ranks' items same_case same_tables same_ranks closed =
    subst (λ v. IsClosedTable (table_of v tables' ranks' items)) (sym same_case)
    (subst (λ t. IsClosedTable (table_of case t ranks' items)) (sym same_tables)
    (subst (λ r. IsClosedTable (table_of case tables r items)) (sym same_ranks) closed))
