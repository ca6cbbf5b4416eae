-- Good steps as facts with reasons, so that what holds of these holds of steps.
use Rattle.std.proofs.Common.{◌≡◌, ◌∙◌, ◌-◌, ℕ, List, Option, Some, None, Contains, map, slice_get, refl, sym, ap, subst, arith}
use Rattle.std.proofs.lemmas.Option.{slice_get-map, slice_get-get_or, slice_get_within, get_or_from_slice_get, same_Some}
use Rattle.std.specs.Option.{option_map}
use Rattle.el_logic.specs.declared.types.Part.{Part}
use Rattle.fact_table.specs.declared.types.Fact.{Fact}
use Rattle.fact_table.specs.declared.types.Proved.{Proved}
use Rattle.el_rules.specs.Following.{IsEarlier, FollowsByReason, EachFollowsByReason}
use Rattle.el_rules.specs.Theories.{IsNamedBy}
use Rattle.case_file.specs.Cases.{CaseView, theory_of}
use Rattle.derivation.specs.declared.types.Step.{Step}
use Rattle.derivation.specs.Steps.{IsStepBefore, AreGoodSteps}
use Rattle.derivation.proofs.MoreGiven.{given_more}

-- a step as a fact with a reason, which names places from 0
abbrev pub item_of : Step → Proved
item_of step = record {
  fact = step.fact;
  reason = record { first = step.first - 1; second = step.second - 1; source = step.source; rule = step.rule };
}

-- an element of a mapped list is that of an element
mapped : (answer : Option Step) (item : Proved) → option_map item_of answer ≡ Some item → (step : Step) × (answer ≡ Some step) × (item_of step ≡ item)
mapped (Some step) item same = (step, refl, same_Some (item_of step) item same)
mapped None item same = cc

-- a premise among the steps is one among the items
earlier_item : (steps : List Step) (k number : ℕ) (fact : Fact) → IsStepBefore steps k number fact → IsEarlier (map item_of steps) k (number - 1) fact
earlier_item steps k number fact (j, step, is, before, at, same) =
    let place : number - 1 ≡ j = omega (arith, is) in (
      item_of step,
      omega (arith, place, before),
      ap (slice_get (map item_of steps)) place ∙ slice_get-map item_of steps j ∙ ap (option_map item_of) at,
      same,
    )

-- good steps follow by their reasons
pub steps_follow : (case : CaseView) (part : Part) (ranks : List ℕ) (steps : List Step) → AreGoodSteps case part ranks steps
    → EachFollowsByReason case.store.nodes (theory_of case) part ranks (map item_of steps)
steps_follow case part ranks steps good k item at =
    let found = mapped (slice_get steps k) item (sym (slice_get-map item_of steps k) ∙ at) in
    let step = found.0 in
    let is = good k step (slice_get_within steps k step found.1) found.1 in
    subst (FollowsByReason case.store.nodes (theory_of case) part ranks (map item_of steps) k) found.2
    (given_more case.store.nodes (IsNamedBy (theory_of case) part ranks step.source) (IsNamedBy (theory_of case) part ranks step.source)
    (IsStepBefore steps k step.first) (IsEarlier (map item_of steps) k (step.first - 1)) (IsStepBefore steps k step.second) (IsEarlier (map item_of steps) k (step.second - 1))
    step.rule step.fact (record { named = λ _ said named. named; one = λ _. earlier_item steps k step.first; two = λ _. earlier_item steps k step.second }) is.given)

-- a step of a list is an item of the mapped list
pub held_item : (steps : List Step) (step : Step) → Contains steps step → Contains (map item_of steps) (item_of step)
held_item steps step held =
    let at : slice_get steps held.0 ≡ Some step = slice_get-get_or steps held.0 step held.1 ∙ ap Some held.2 in
    let there : slice_get (map item_of steps) held.0 ≡ Some (item_of step) = slice_get-map item_of steps held.0 ∙ ap (option_map item_of) at in
    (held.0, slice_get_within (map item_of steps) held.0 (item_of step) there, get_or_from_slice_get (map item_of steps) held.0 (item_of step) (item_of step) there)
