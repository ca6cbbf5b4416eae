use Rattle.std.proofs.Common.{◌∙◌, ℕ, get_or, refl, sym, subst, rules}
use Rattle.std.proofs.lemmas.List.Elements.{All-more}
use Rattle.model_members.specs.Inside.Pairs.{Lead}
use Rattle.model_members.proofs.PairSteps.{of_each, leads_on}
use Rattle.model_members.proofs.pairs.joins_are_among.Goals as goal

pub returns-then-not-ends_are_among : goal.returns-then-not-ends_are_among
returns-then-not-ends_are_among c =
    let pair = get_or c.args.pairs.now c.loop-from.from-index (0, 0) in (
      (λ no. search rules),
      (λ each. sym c.if-not-ends_are_among.true ∙ c.ends_are_among.ensures.1 (λ z y led.
          let step = (c.steps_from.ensures z y).0 led in
          each pair.0 pair.1 y (leads_on c.args.pairs.now c.loop-from.from-index c.loop-from-test.true) (subst (λ by. Lead c.args.steps.now by y) step.0 step.1))),
    )

pub loop-from-preserved : goal.loop-from-preserved
loop-from-preserved c =
    let pair = get_or c.args.pairs.now c.loop-from.from-index (0, 0) in
    All-more (λ p. (y : ℕ) → Lead c.args.steps.now p.1 y → Lead c.args.wanted.now p.0 y) c.args.pairs.now c.loop-from.from-index (0, 0) c.loop-from-test.true c.loop-from.invariant
    (λ y step. c.ends_are_among.ensures.0 c.if-not-ends_are_among.false pair.1 y ((c.steps_from.ensures pair.1 y).1 (refl, step)))

pub returns : goal.returns
returns c = (
  (λ yes x z y led step. of_each (λ p. (y : ℕ) → Lead c.args.steps.now p.1 y → Lead c.args.wanted.now p.0 y) c.args.pairs.now c.loop-from.from-index c.loop-from-test.false c.loop-from.invariant x z led y step),
  (λ each. search rules),
)
