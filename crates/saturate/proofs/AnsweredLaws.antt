-- Facts that are answered, in a list that grows.
use Rattle.std.proofs.Common.{◌≡◌, ◌∙◌, ℕ, zero, suc, ◌+◌, ◌<◌, ◌≤◌, List, [], ◌++◌, length, length-append, ap, sym, subst, ⊎_elim, arith, ◌-◌}
use Rattle.std.specs.Prelude.{Result, Ok, Err, Option, Some, None, IfOk, MatchOption}
use Rattle.std.proofs.lemmas.Bool.{cases_lt}
use Rattle.std.proofs.lemmas.List.{append-nil}
use Rattle.fact_table.specs.declared.types.Fact.{Fact}
use Rattle.fact_table.specs.declared.types.Proved.{Proved}
use Rattle.fact_table.specs.Lists.{facts_of}
use Rattle.fact_layers.specs.Tops.{Topped, whole}
use Rattle.el_rules.specs.Following.{AreClosed}
use Rattle.rule_steps.specs.Counted.{GroundsView, IsCounted, nodes_of}
use Rattle.rule_steps.specs.Growing.{facts_in, AreDerived, HasGrown}
use Rattle.rule_steps.specs.Answering.{AreBegunBelow, AreClosedBelow, IsAnswered}
use Rattle.saturate.specs.Inside.Clashes.{HasClashAt, AreLiveWithin}
use Rattle.saturate.specs.Inside.Saturated.{AreAnsweredWithin, IsCaughtUp, IsLive}
use Rattle.saturate.proofs.ClashLaws.{facts_length}
use Rattle.saturate.proofs.ReadyLaws.{derived_none, no_premise}

-- what is answered stays so in a list that has grown
abbrev pub AnswersStay : GroundsView → Topped → Topped → Type 0
AnswersStay grounds old new = (p : ℕ) → p < length (facts_in old) → IsAnswered (nodes_of grounds) (IsCounted grounds) p (facts_in old) → IsAnswered (nodes_of grounds) (IsCounted grounds) p (facts_in new)

module _ (grounds : GroundsView) (old new : Topped) (stay : AnswersStay grounds old new) where
  -- so do several places
  pub within_stays : (from below : ℕ) → below ≤ length (facts_in old) → AreAnsweredWithin grounds from below (facts_in old) → AreAnsweredWithin grounds from below (facts_in new)
  within_stays from below fits answered place past under = stay place (omega arith) (answered place past under)

  -- one more place
  pub within_more : (from place : ℕ) → place < length (facts_in old) → AreAnsweredWithin grounds from place (facts_in old) → IsAnswered (nodes_of grounds) (IsCounted grounds) place (facts_in new)
      → AreAnsweredWithin grounds from (place + 1) (facts_in new)
  within_more from place fits answered here other past under = ⊎_elim
      (λ less. within_stays from place (omega arith) answered other past less)
      (λ more. let same : other ≡ place = omega arith in subst (λ k. IsAnswered (nodes_of grounds) (IsCounted grounds) k (facts_in new)) (sym same) here)
      (cases_lt other place)

  -- the facts that were added are answered too
  pub caught_more : (from : ℕ) → HasGrown grounds old new → from ≡ length (whole old) → IsCaughtUp grounds old
      → AreAnsweredWithin grounds from (length (facts_in new)) (facts_in new) → AreLiveWithin grounds.case 0 (length (facts_in new)) (facts_in new) → IsCaughtUp grounds new
  caught_more from grown end caught answered live =
      let count = facts_length (whole old) in
      record {
        derived = grown.derived caught.derived;
        answered = subst (λ (items : List Proved). AreAnsweredWithin grounds (length items) (length (facts_in new)) (facts_in new)) (sym grown.base) both;
        live = live;
      }
    where
      both : AreAnsweredWithin grounds (length old.base) (length (facts_in new)) (facts_in new)
      both place past under =
          let count = facts_length (whole old) in
          ⊎_elim
          (λ (less : place < from). within_stays (length old.base) (length (facts_in old)) (omega arith) caught.answered place past (omega arith))
          (λ more. answered place more under)
          (cases_lt place from)

-- one place after the other is closed
module _ (grounds : GroundsView) (facts : List Fact)
    (step : (p : ℕ) → AreClosedBelow (nodes_of grounds) (IsCounted grounds) p facts → IsAnswered (nodes_of grounds) (IsCounted grounds) p facts → AreClosedBelow (nodes_of grounds) (IsCounted grounds) (p + 1) facts) where
  closed_after : (from count : ℕ) → AreClosedBelow (nodes_of grounds) (IsCounted grounds) from facts → AreAnsweredWithin grounds from (from + count) facts → AreClosedBelow (nodes_of grounds) (IsCounted grounds) (from + count) facts
  closed_after from zero closed answered = subst (λ n. AreClosedBelow (nodes_of grounds) (IsCounted grounds) n facts) (omega arith) closed
  closed_after from (suc count) closed answered =
      let same : from + count + 1 ≡ from + suc count = omega arith in
      subst (λ n. AreClosedBelow (nodes_of grounds) (IsCounted grounds) n facts) same
      (step (from + count) (closed_after from count closed (λ place past under. answered place past (omega arith))) (answered (from + count) (omega arith) (omega arith)))

  pub closed_on : (from below : ℕ) → from ≤ below → AreClosedBelow (nodes_of grounds) (IsCounted grounds) from facts → AreAnsweredWithin grounds from below facts → AreClosedBelow (nodes_of grounds) (IsCounted grounds) below facts
  closed_on from below fits closed answered =
      let same : from + (below - from) ≡ below = omega arith in
      subst (λ n. AreClosedBelow (nodes_of grounds) (IsCounted grounds) n facts) same
      (closed_after from (below - from) closed (subst (λ n. AreAnsweredWithin grounds from n facts) (sym same) answered))

-- facts with nothing over their base have caught up if they follow and leave no class empty
pub caught_none : (grounds : GroundsView) (layers : Topped) → layers.top ≡ [] → AreDerived grounds (whole layers) → AreLiveWithin grounds.case 0 (length (facts_in layers)) (facts_in layers) → IsCaughtUp grounds layers
caught_none grounds layers none derived live = record { derived = derived; answered = answered; live = live }
  where
    answered : AreAnsweredWithin grounds (length layers.base) (length (facts_in layers)) (facts_in layers)
    answered place past under =
        let count = facts_length (whole layers) in
        let same : length (whole layers) ≡ length layers.base = ap length (ap (λ (xs : List Proved). layers.base ++ xs) none ∙ append-nil layers.base) in
        absurd (omega arith)

-- what a catching up has answered, in another way
pub caught_as : {E : Type 0} (r : Result (Option ℕ) E) (A B C : Type 0) (Clash : ℕ → Type 0) → (A → B → C)
    → IfOk r (λ found. MatchOption found A Clash) → IfOk r (λ found. MatchOption found B Clash) → IfOk r (λ found. MatchOption found C Clash)
caught_as (Ok None) A B C Clash both a b = both a b
caught_as (Ok (Some place)) A B C Clash both a b = a
caught_as (Err error) A B C Clash both a b = tt

-- and with one answer alone
pub caught_so : {E : Type 0} (r : Result (Option ℕ) E) (A B : Type 0) (Clash : ℕ → Type 0) → (A → B) → IfOk r (λ found. MatchOption found A Clash) → IfOk r (λ found. MatchOption found B Clash)
caught_so (Ok None) A B Clash so a = so a
caught_so (Ok (Some place)) A B Clash so a = a
caught_so (Err error) A B Clash so a = tt

-- no facts have caught up
pub caught_empty : (grounds : GroundsView) (layers : Topped) → whole layers ≡ [] → IsCaughtUp grounds layers
caught_empty grounds layers none = record {
  derived = derived_none grounds (whole layers) none;
  answered = λ place past under. absurd (nowhere place under);
  live = λ place past under. absurd (nowhere place under);
}
  where
    nowhere : (place : ℕ) → place < length (facts_in layers) → ⊥
    nowhere place under =
        let count : length (facts_in layers) ≡ 0 = ap (λ (items : List Proved). length (facts_of items)) none in
        omega arith

-- facts that were begun from nothing, and have caught up, are all that follows
pub live_from_nothing : (grounds : GroundsView) (old new : Topped)
    → ((p : ℕ) → AreClosedBelow (nodes_of grounds) (IsCounted grounds) p (facts_in new) → IsAnswered (nodes_of grounds) (IsCounted grounds) p (facts_in new) → AreClosedBelow (nodes_of grounds) (IsCounted grounds) (p + 1) (facts_in new))
    → (AreClosedBelow (nodes_of grounds) (IsCounted grounds) (length (facts_in new)) (facts_in new) → AreBegunBelow (nodes_of grounds) (IsCounted grounds) (length (nodes_of grounds)) (facts_in new)
    → AreClosed (nodes_of grounds) (IsCounted grounds) (facts_in new))
    → whole old ≡ [] → HasGrown grounds old new → IsCaughtUp grounds new → AreBegunBelow (nodes_of grounds) (IsCounted grounds) (length (nodes_of grounds)) (facts_in new) → IsLive grounds new
live_from_nothing grounds old new step to_end none grown caught begun = record {
  closed = to_end (closed_on grounds (facts_in new) step 0 (length (facts_in new)) (omega arith)
      (λ rule fact some given. absurd (no_premise (nodes_of grounds) (IsCounted grounds) (facts_in new) rule fact some given))
      (subst (λ n. AreAnsweredWithin grounds n (length (facts_in new)) (facts_in new)) base caught.answered)) begun;
  live = caught.live;
}
  where
    base : length new.base ≡ 0
    base =
        let all : length old.base + length old.top ≡ 0 = sym (length-append old.base old.top) ∙ ap length none in
        let same = ap length grown.base in
        omega arith
