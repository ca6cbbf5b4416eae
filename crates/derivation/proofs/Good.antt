-- The trace of facts that follow by their reasons is good.
use Rattle.std.proofs.Common.{◌≡◌, ◌∙◌, ◌<◌, if◌then◌else◌, ℕ, false, List, Some, length, slice_get, sym, ap, subst, ⊎_elim, arith}
use Rattle.std.proofs.lemmas.Bool.{cases_lt}
use Rattle.std.proofs.lemmas.Option.{slice_get_cases, slice_get_within, get_or_from_slice_get, same_Some}
use Rattle.std.proofs.Math.Nat.{eq-or-lt_of_le}
use Rattle.el_logic.specs.declared.types.Part.{Part}
use Rattle.fact_table.specs.declared.types.Fact.{Fact}
use Rattle.fact_table.specs.declared.types.Proved.{Proved}
use Rattle.fact_table.specs.declared.types.Source.{Source}
use Rattle.el_rules.specs.Rules.{Gives, premises, names_axiom}
use Rattle.el_rules.specs.Following.{IsEarlier, EachFollowsByReason}
use Rattle.el_rules.specs.Theories.{IsNamedBy}
use Rattle.case_file.specs.Cases.{CaseView, theory_of}
use Rattle.derivation.specs.declared.types.Step.{Step}
use Rattle.derivation.specs.Steps.{IsAscending, IsStepBefore, AreGoodSteps, EndsIn}
use Rattle.derivation.specs.Traces.{EachNamesEarlier, IsNumberOf, IsTraceOf}
use Rattle.derivation.proofs.MoreGiven.{given_more, given_premises}

-- a place within a list has an element
pub element_at : {X : Type 0} (xs : List X) (k : ℕ) → k < length xs → (x : X) × (slice_get xs k ≡ Some x)
element_at xs k within =
    ⊎_elim (λ here. (here.0, here.2)) (λ past. let short = past.0 in absurd (omega (arith, within, short))) (slice_get_cases xs k).1

-- facts that follow by their reasons name earlier places
pub names_earlier : (case : CaseView) (part : Part) (ranks : List ℕ) (items : List Proved) → EachFollowsByReason case.store.nodes (theory_of case) part ranks items → EachNamesEarlier items
names_earlier case part ranks items each k item at place names =
    let given = given_premises case.store.nodes (IsNamedBy (theory_of case) part ranks item.reason.source) (IsEarlier items k item.reason.first) (IsEarlier items k item.reason.second)
    item.reason.rule item.fact (each k item at) in
    ⊎_elim (λ first. subst (λ p. p < k) (sym first.1) (given.0 first.0).1.1) (λ second. subst (λ p. p < k) (sym second.1) (given.1 second.0).1.1) names

-- at ascending places a smaller number stands before a greater one
before_in : (places : List ℕ) → IsAscending places → (j k less more : ℕ) → slice_get places j ≡ Some less → slice_get places k ≡ Some more → less < more → j < k
before_in places up j k less more at_less at_more smaller =
    let first = get_or_from_slice_get places j less 0 at_less in
    let second = get_or_from_slice_get places k more 0 at_more in
    ⊎_elim (λ is. is)
    (λ past. ⊎_elim (λ same. absurd (omega (arith, smaller, same_Some more less (sym at_more ∙ ap (slice_get places) same ∙ at_less))))
    (λ later. let rises = up k j later (slice_get_within places j less at_less) in absurd (omega (arith, smaller, first, second, rises)))
    (eq-or-lt_of_le past)) (cases_lt j k)

module _ (items : List Proved) (goal : ℕ) (steps : List Step) (trace : IsTraceOf items goal steps) where
  -- a premise among the items is one among the steps
  step_for : (k place : ℕ) → slice_get trace.places k ≡ Some place → (premise number : ℕ) → IsNumberOf trace.places premise number
      → (fact : Fact) → IsEarlier items place premise fact → IsStepBefore steps k number fact
  step_for k place at premise number (j, is, there) fact (item, less, held, same) =
      let found = element_at steps j (omega (arith, slice_get_within trace.places j premise there, trace.count)) in
      let told = trace.each j found.0 found.1 in
      let here : told.0 ≡ premise = same_Some told.0 premise (sym told.2 ∙ there) in
      let one : told.1 ≡ item = same_Some told.1 item (sym told.3 ∙ ap (slice_get items) here ∙ held) in (
        j,
        found.0,
        is,
        before_in trace.places trace.ascending j k premise place there at less,
        found.1,
        told.4.fact_is ∙ ap (λ (i : Proved). i.fact) one ∙ same,
      )

  -- each step is good
  pub steps_good : (case : CaseView) (part : Part) (ranks : List ℕ) → EachFollowsByReason case.store.nodes (theory_of case) part ranks items → AreGoodSteps case part ranks steps
  steps_good case part ranks each k step below at =
      let told = trace.each k step at in
      let item = told.1 in
      let tells = told.4 in
      let Named = IsNamedBy (theory_of case) part ranks step.source in
      let One = IsStepBefore steps k step.first in
      let Two = IsStepBefore steps k step.second in
      record {
        given = subst (λ r. Gives case.store.nodes Named One Two r step.fact) (sym tells.rule_is)
            (subst (λ f. Gives case.store.nodes Named One Two item.reason.rule f) (sym tells.fact_is)
            (given_more case.store.nodes (IsNamedBy (theory_of case) part ranks item.reason.source) Named
            (IsEarlier items told.0 item.reason.first) One (IsEarlier items told.0 item.reason.second) Two item.reason.rule item.fact
            (record {
              named = λ has said named. subst (λ s. IsNamedBy (theory_of case) part ranks s said)
                  (sym (tells.source_is ∙ ap (λ b. if b then item.reason.source else Source.Nothing) has)) named;
              one = λ has. step_for k told.0 told.2 item.reason.first step.first (tells.first_is has);
              two = λ has. step_for k told.0 told.2 item.reason.second step.second (tells.second_is has);
            }) (each told.0 item told.3)));
        no_more = record {
          first_is = λ few. tells.no_first (subst (λ r. premises r < 1) tells.rule_is few);
          second_is = λ few. tells.no_second (subst (λ r. premises r < 2) tells.rule_is few);
          source_is = λ hasnt. tells.source_is
              ∙ ap (λ b. if b then item.reason.source else Source.Nothing) (subst (λ r. names_axiom r ≡ false) tells.rule_is hasnt);
        };
      }

  -- the last step has the fact of the goal
  pub ends_in : (item : Proved) → slice_get items goal ≡ Some item → EndsIn steps item.fact
  ends_in item at =
      let k = trace.last.0 in
      let found = element_at steps k (omega (arith, trace.last.1, trace.count)) in
      let told = trace.each k found.0 found.1 in
      let here : told.0 ≡ goal = same_Some told.0 goal (sym told.2 ∙ trace.last.2) in
      let one : told.1 ≡ item = same_Some told.1 item (sym told.3 ∙ ap (slice_get items) here ∙ at) in
      (k, found.0, sym trace.count ∙ trace.last.1, found.1, told.4.fact_is ∙ ap (λ (i : Proved). i.fact) one)
