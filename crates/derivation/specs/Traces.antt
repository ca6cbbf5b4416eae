-- Derivations that are read off a list of facts with their reasons.
use Rattle.std.specs.Prelude.{◌≡◌, ℕ, ◌+◌, ◌<◌, List, Some, slice_get, length, if◌then◌else◌, ◌⊎◌}
use Rattle.fact_table.specs.declared.types.Proved.{Proved}
use Rattle.fact_table.specs.declared.types.Reason.{Reason}
use Rattle.fact_table.specs.declared.types.Source.{Source}
use Rattle.el_rules.specs.Rules.{premises, names_axiom}
use Rattle.derivation.specs.declared.types.Step.{Step}
use Rattle.derivation.specs.Steps.{IsAscending}

-- the rule of the reason starts from the fact at this place
abbrev pub IsPremiseOf : Reason → ℕ → Type 0
IsPremiseOf reason place = ((0 < premises reason.rule) × (place ≡ reason.first))
    ⊎ ((1 < premises reason.rule) × (place ≡ reason.second))

-- each reason names earlier places
abbrev pub EachNamesEarlier : List Proved → Type 0
EachNamesEarlier items = (k : ℕ) (item : Proved) → slice_get items k ≡ Some item
    → (place : ℕ) → IsPremiseOf item.reason place → place < k

-- the number, from 1, of the step for a place of the list. `places` has the place of each step.
abbrev pub IsNumberOf : List ℕ → ℕ → ℕ → Type 0
IsNumberOf places place number =
    (k : ℕ) × (number ≡ k + 1) × (slice_get places k ≡ Some place)

-- the step says what the item says: its fact, its rule, and what this rule starts from
pub record TellsItem (places : List ℕ) (item : Proved) (step : Step) : Type 0 where
  pub fact_is : step.fact ≡ item.fact
  pub rule_is : step.rule ≡ item.reason.rule
  pub first_is : 0 < premises item.reason.rule → IsNumberOf places item.reason.first step.first
  pub no_first : premises item.reason.rule < 1 → step.first ≡ 0
  pub second_is : 1 < premises item.reason.rule → IsNumberOf places item.reason.second step.second
  pub no_second : premises item.reason.rule < 2 → step.second ≡ 0
  pub source_is : step.source
      ≡ (if names_axiom item.reason.rule then item.reason.source else Source.Nothing)

-- the step says what the item at the k-th place says
abbrev pub TellsPlace : List Proved → List ℕ → ℕ → Step → Type 0
TellsPlace items places k step = (place : ℕ) × (item : Proved) × (slice_get places k ≡ Some place)
    × (slice_get items place ≡ Some item) × TellsItem places item step

-- the steps say what the items at some places say, in their order, the goal's last
pub record IsTraceOf (items : List Proved) (goal : ℕ) (steps : List Step) : Type 0 where
  pub places : List ℕ
  pub ascending : IsAscending places
  pub count : length places ≡ length steps
  pub last : (k : ℕ) × (length places ≡ k + 1) × (slice_get places k ≡ Some goal)
  pub each : (k : ℕ) (step : Step) → slice_get steps k ≡ Some step → TellsPlace items places k step
