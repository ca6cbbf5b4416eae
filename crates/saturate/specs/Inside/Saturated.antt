-- Facts with which a saturation begins and ends.
use Rattle.std.specs.Prelude.{◌<◌, ◌≤◌, ◌⊎◌, ℕ, List, Option, MatchOption, length, Contains}
use Rattle.el_logic.specs.declared.types.Part.{Part}
use Rattle.fact_table.specs.declared.types.Fact.{Fact}
use Rattle.fact_table.specs.declared.types.Proved.{Proved}
use Rattle.fact_layers.specs.Tops.{Topped, whole}
use Rattle.el_rules.specs.Following.{AreClosed}
use Rattle.case_file.specs.Cases.{CaseView}
use Rattle.case_tables.specs.Tables.{TableLists}
use Rattle.closed_model.specs.ClosedTables.{TableView}
use Rattle.rule_steps.specs.Counted.{GroundsView, IsCounted, nodes_of}
use Rattle.rule_steps.specs.Growing.{AreDerived, facts_in}
use Rattle.rule_steps.specs.Answering.{AreBegunBelow, AreClosedBelow, IsAnswered}
use Rattle.saturate.specs.Inside.Clashes.{AreLiveWithin, HasClashAt}

-- places from one on are to be answered: each fact follows, all nodes are begun, and the places
-- below are closed and leave no class empty
pub record IsReady (grounds : GroundsView) (layers : Topped) (from : ℕ) : Type 0 where
  pub derived : AreDerived grounds (whole layers)
  pub begun : AreBegunBelow (nodes_of grounds) (IsCounted grounds) (length (nodes_of grounds))
      (facts_in layers)
  pub within : from ≤ length (facts_in layers)
  pub closed : AreClosedBelow (nodes_of grounds) (IsCounted grounds) from (facts_in layers)
  pub live : AreLiveWithin grounds.case 0 from (facts_in layers)

-- the facts at places from one on and below another are answered
abbrev pub AreAnsweredWithin : GroundsView → ℕ → ℕ → List Fact → Type 0
AreAnsweredWithin grounds from below facts = (place : ℕ) → from ≤ place → place < below
    → IsAnswered (nodes_of grounds) (IsCounted grounds) place facts

-- each fact follows, those over the base are answered, and none leaves a class empty
pub record IsCaughtUp (grounds : GroundsView) (layers : Topped) : Type 0 where
  pub derived : AreDerived grounds (whole layers)
  pub answered : AreAnsweredWithin grounds (length layers.base) (length (facts_in layers))
      (facts_in layers)
  pub live : AreLiveWithin grounds.case 0 (length (facts_in layers)) (facts_in layers)

-- the facts have caught up, and this holds; or the fact at a place leaves a class empty
abbrev pub HasCaughtUpOrClash : GroundsView → Topped → Type 0 → Option ℕ → Type 0
HasCaughtUpOrClash grounds layers P found =
    MatchOption found (IsCaughtUp grounds layers × P) (HasClashAt grounds.case (facts_in layers))

-- no more follows
abbrev pub IsSaturated : GroundsView → Topped → Type 0
IsSaturated grounds layers = AreClosed (nodes_of grounds) (IsCounted grounds) (facts_in layers)

-- no more follows, and no fact leaves a class empty
pub record IsLive (grounds : GroundsView) (layers : Topped) : Type 0 where
  pub closed : IsSaturated grounds layers
  pub live : AreLiveWithin grounds.case 0 (length (facts_in layers)) (facts_in layers)

-- a case, its tables, ranks and facts
abbrev pub table_of : CaseView → TableLists → List ℕ → List Proved → TableView
table_of case tables ranks items =
    record { case = case; tables = tables; ranks = ranks; items = items }

-- what is derived from when rows are tested: both documents, and rows
abbrev pub grounds_of : CaseView → List ℕ → GroundsView
grounds_of case ranks = record { case = case; part = Part.Both; ranks = ranks }

-- the ranks are those of a snapshot, and more, which are those from the first one on
pub record AddsRanks (old : List ℕ) (first : ℕ) (more ranks : List ℕ) : Type 0 where
  pub kept : (rank : ℕ) → Contains old rank → Contains ranks rank
  pub since : (rank : ℕ) → Contains ranks rank → Contains old rank ⊎ (first ≤ rank)
  pub late : (rank : ℕ) → Contains ranks rank → first ≤ rank → Contains more rank
  pub added : (rank : ℕ) → Contains more rank → Contains ranks rank
