-- Good steps.
use Rattle.std.proofs.Common.{◌≡◌, ◌∙◌, ◌+◌, ◌<◌, ◌≤◌, ◌↔◌, ℕ, List, Option, Some, Bool, IsTrue, slice_get, length, sym, subst, ⊎_elim, arith}
use Rattle.std.proofs.lemmas.Option.{same_Some}
use Rattle.std.proofs.Math.Nat.{eq-or-lt_of_le}
use Rattle.el_logic.specs.declared.types.Part.{Part}
use Rattle.concept_store.specs.declared.types.Node.{Node}
use Rattle.concept_store.specs.declared.types.NodeAxiom.{NodeAxiom}
use Rattle.fact_table.specs.declared.types.Fact.{Fact}
use Rattle.fact_table.specs.declared.types.Rule.{Rule}
use Rattle.el_rules.specs.Rules.{Gives}
use Rattle.el_rules.specs.Theories.{IsNamedBy}
use Rattle.el_rules.specs.Following.{NamesNoMore}
use Rattle.case_file.specs.Cases.{CaseView, theory_of}
use Rattle.derivation.specs.declared.types.Step.{Step}
use Rattle.derivation.specs.Steps.{IsStepBefore, IsGoodStep, AreGoodBelow, AreGoodSteps}
use Rattle.derivation.specs.Inside.Answers.{Is, IsTheOne}
use Rattle.derivation.specs.Inside.Premises.{GivesFrom}
use Rattle.derivation.proofs.MoreGiven.{given_more}

-- a rule gives the same from the one axiom and the one fact of each kind
pub given_alone : (nodes : List Node) (Named : NodeAxiom → Type 0) (One Two : Fact → Type 0) (said : Option NodeAxiom) (one two : Option Fact) (rule : Rule) (fact : Fact)
    → IsTheOne said Named → IsTheOne one One → IsTheOne two Two → Gives nodes Named One Two rule fact ↔ GivesFrom nodes said one two rule fact
given_alone nodes Named One Two said one two rule fact the_said the_one the_two = (
  (λ given. given_more nodes Named (Is said) One (Is one) Two (Is two) rule fact
      (record { named = λ _ x. (the_said x).0; one = λ _ x. (the_one x).0; two = λ _ x. (the_two x).0 }) given),
  (λ given. given_more nodes (Is said) Named (Is one) One (Is two) Two rule fact
      (record { named = λ _ x. (the_said x).1; one = λ _ x. (the_one x).1; two = λ _ x. (the_two x).1 }) given),
)

-- a test of what a rule gives and of what it names is one of the step
pub good_step : (case : CaseView) (part : Part) (ranks : List ℕ) (steps : List Step) (count : ℕ) (step : Step) (said : Option NodeAxiom) (one two : Option Fact) (nodes : List Node)
    (passed : Bool) → nodes ≡ case.store.nodes
    → IsTheOne said (IsNamedBy (theory_of case) part ranks step.source) → IsTheOne one (IsStepBefore steps count step.first) → IsTheOne two (IsStepBefore steps count step.second)
    → NamesNoMore step.rule step.first step.second step.source
    → (IsTrue passed ↔ GivesFrom nodes said one two step.rule step.fact) → IsTrue passed ↔ IsGoodStep case part ranks steps count step
good_step case part ranks steps count step said one two nodes passed same the_said the_one the_two no_more test =
    let alone = given_alone case.store.nodes (IsNamedBy (theory_of case) part ranks step.source) (IsStepBefore steps count step.first) (IsStepBefore steps count step.second)
    said one two step.rule step.fact the_said the_one the_two in
    let tested : IsTrue passed ↔ GivesFrom case.store.nodes said one two step.rule step.fact =
    subst (λ n. IsTrue passed ↔ GivesFrom n said one two step.rule step.fact) same test in
    ((λ yes. record { given = alone.1 (tested.0 yes); no_more = no_more }), (λ good. tested.1 (alone.0 good.given)))

-- below the next number is at most this one
at_most : (k n : ℕ) → k < n + 1 → k ≤ n
at_most k n below = omega arith

-- with the next step, one more step is good
pub good_next : (case : CaseView) (part : Part) (ranks : List ℕ) (steps : List Step) (count : ℕ) (step : Step) → slice_get steps count ≡ Some step
    → AreGoodBelow case part ranks steps count → IsGoodStep case part ranks steps count step → AreGoodBelow case part ranks steps (count + 1)
good_next case part ranks steps count step at before good k other below here =
    ⊎_elim
    (λ same. subst (λ s. IsGoodStep case part ranks steps k s) (same_Some step other (sym (subst (λ n. slice_get steps n ≡ Some step) (sym same) at) ∙ here))
    (subst (λ n. IsGoodStep case part ranks steps n step) (sym same) good))
    (λ less. before k other less here)
    (eq-or-lt_of_le (at_most k count below))

-- steps up to the last are all of them
pub good_below : (case : CaseView) (part : Part) (ranks : List ℕ) (steps : List Step) (count : ℕ) → length steps ≤ count → AreGoodBelow case part ranks steps count → AreGoodSteps case part ranks steps
good_below case part ranks steps count all good k step below at = good k step (omega (arith, all, below)) at
