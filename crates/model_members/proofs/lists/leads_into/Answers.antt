use Rattle.std.proofs.Common.{◌∙◌, Contains, get_or, refl, sym, subst, rules, true≢false}
use Rattle.std.proofs.lemmas.Bool.{false≢true}
use Rattle.std.proofs.lemmas.List.Elements.{All-more}
use Rattle.model_members.specs.Inside.Pairs.{Lead}
use Rattle.model_members.proofs.PairSteps.{of_each, leads_on}
use Rattle.model_members.proofs.lists.leads_into.Goals as goal

pub returns-then-has_number : goal.returns-then-has_number
returns-then-has_number c =
    let pairs = c.args.pairs.now in
    let steps = c.steps_from-to-items.result.now in
    let step = get_or steps c.loop-to.to-index (0, 0) in
    let led = (c.steps_from-to-items.ensures step.0 step.1).0 (leads_on steps c.loop-to.to-index c.loop-to-test.true) in (
      (λ yes. (step.1, subst (λ from. Lead pairs from step.1) led.0 led.1, c.has_number.ensures.there.0 c.if-has_number.true)),
      (λ some. search rules),
    )

pub loop-to-preserved : goal.loop-to-preserved
loop-to-preserved c =
    All-more (λ p. ¬ (Contains c.args.ends.now p.1)) c.steps_from-to-items.result.now c.loop-to.to-index (0, 0) c.loop-to-test.true c.loop-to.invariant
    (λ there. true≢false (sym (c.has_number.ensures.there.1 there) ∙ c.if-has_number.false))

pub returns : goal.returns
returns c = (
  (λ yes. absurd (false≢true yes)),
  (λ (y, led, there). absurd (of_each (λ p. ¬ (Contains c.args.ends.now p.1)) c.steps_from-to-items.result.now c.loop-to.to-index c.loop-to-test.false c.loop-to.invariant
      c.args.from y ((c.steps_from-to-items.ensures c.args.from y).1 (refl, led)) there)),
)
