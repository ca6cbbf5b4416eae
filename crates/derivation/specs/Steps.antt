-- Derivations: which steps are good, and what a derivation shows.
use Rattle.std.specs.Prelude.{◌≡◌, ℕ, ◌+◌, ◌<◌, List, Some, slice_get, slice_index, length, Result, MatchResult}
use Rattle.el_logic.specs.declared.types.Part.{Part}
use Rattle.fact_table.specs.declared.types.Fact.{Fact}
use Rattle.fact_table.specs.declared.types.Fact.TheVariants.{Sub}
use Rattle.el_rules.specs.Rules.{Gives}
use Rattle.el_rules.specs.Theories.{IsNamedBy}
use Rattle.el_rules.specs.Following.{NamesNoMore}
use Rattle.case_file.specs.Cases.{CaseView, theory_of, IsMustHave}
use Rattle.derivation.specs.declared.types.Step.{Step}
use Rattle.derivation.specs.declared.types.BadStep.{BadStep}
use Rattle.derivation.specs.declared.types.BadStep.TheVariants as Bad

-- the step with this number, from 1, is one of the first `count`, and has the fact
abbrev pub IsStepBefore : List Step → ℕ → ℕ → Fact → Type 0
IsStepBefore steps count number fact = (k : ℕ) × (step : Step)
    × (number ≡ k + 1) × (k < count) × (slice_get steps k ≡ Some step) × (step.fact ≡ fact)

-- a step with `count` steps before it is good: its rule gives its fact from the earlier steps that
-- it names and from the axiom that its source names, which is of the part or of a row with one of
-- the ranks. It names nothing else.
pub record IsGoodStep (case : CaseView) (part : Part) (ranks : List ℕ)
    (steps : List Step) (count : ℕ) (step : Step) : Type 0 where
  pub given : Gives case.store.nodes (IsNamedBy (theory_of case) part ranks step.source)
      (IsStepBefore steps count step.first) (IsStepBefore steps count step.second)
      step.rule step.fact
  pub no_more : NamesNoMore step.rule step.first step.second step.source

-- the first `count` steps are good
abbrev pub AreGoodBelow : CaseView → Part → List ℕ → List Step → ℕ → Type 0
AreGoodBelow case part ranks steps count = (k : ℕ) (step : Step) → k < count
    → slice_get steps k ≡ Some step → IsGoodStep case part ranks steps k step

-- all steps are good
abbrev pub AreGoodSteps : CaseView → Part → List ℕ → List Step → Type 0
AreGoodSteps case part ranks steps = AreGoodBelow case part ranks steps (length steps)

-- the last step has the fact
abbrev pub EndsIn : List Step → Fact → Type 0
EndsIn steps fact = (k : ℕ) × (step : Step)
    × (length steps ≡ k + 1) × (slice_get steps k ≡ Some step) × (step.fact ≡ fact)

-- the last step says that a node that must have a member is within owl:Nothing, which is node 1
abbrev pub ShowsEmpty : CaseView → List Step → Type 0
ShowsEmpty case steps = (node : ℕ) × IsMustHave case node × EndsIn steps (Sub node 1)

-- a derivation from the axioms of the part and of the rows with these ranks that shows that such a
-- node is empty
pub record IsGoodDerivation (case : CaseView) (part : Part) (ranks : List ℕ)
    (steps : List Step) : Type 0 where
  pub good : AreGoodSteps case part ranks steps
  pub shows : ShowsEmpty case steps

-- the step with this number, from 1, is the first that is not good
abbrev pub IsFirstBad : CaseView → Part → List ℕ → List Step → ℕ → Type 0
IsFirstBad case part ranks steps number = (k : ℕ) × (step : Step) × (number ≡ k + 1)
    × AreGoodBelow case part ranks steps k
    × (slice_get steps k ≡ Some step) × ¬ (IsGoodStep case part ranks steps k step)

-- why a list of steps is no good derivation
abbrev pub IsBadStep : CaseView → Part → List ℕ → List Step → BadStep → Type 0
IsBadStep case part ranks steps (Bad.Step number) = IsFirstBad case part ranks steps number
IsBadStep case part ranks steps Bad.Goal =
    AreGoodSteps case part ranks steps × ¬ (ShowsEmpty case steps)

-- what a list of steps is answered: it is a good derivation, or why it is none
abbrev pub IsAnswer : CaseView → Part → List ℕ → List Step → Result (Unit {0}) BadStep → Type 0
IsAnswer case part ranks steps answer =
    MatchResult answer (λ _. IsGoodDerivation case part ranks steps)
    (IsBadStep case part ranks steps)

-- each number is below the next
abbrev pub IsAscending : List ℕ → Type 0
IsAscending numbers = (one other : ℕ) → one < other → other < length numbers
    → slice_index numbers one < slice_index numbers other
