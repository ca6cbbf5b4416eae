use Rattle.std.proofs.Common.{◌∙◌, get_or, sym, rules}
use Rattle.std.proofs.lemmas.List.Elements.{All-more}
use Rattle.model_members.specs.Inside.Pairs.{Lead}
use Rattle.model_members.proofs.PairSteps.{of_each, leads_on}
use Rattle.model_members.proofs.pairs.ends_are_among.Goals as goal

pub returns-then-not-has_pair : goal.returns-then-not-has_pair
returns-then-not-has_pair c =
    let step = get_or c.args.steps.now c.loop-to.to-index (0, 0) in (
      (λ no. search rules),
      (λ each. sym c.if-not-has_pair.true ∙ c.has_pair.ensures.1 (each step.0 step.1 (leads_on c.args.steps.now c.loop-to.to-index c.loop-to-test.true))),
    )

pub loop-to-preserved : goal.loop-to-preserved
loop-to-preserved c =
    All-more (λ p. Lead c.args.wanted.now c.args.from p.1) c.args.steps.now c.loop-to.to-index (0, 0) c.loop-to-test.true c.loop-to.invariant
    (c.has_pair.ensures.0 c.if-not-has_pair.false)

pub returns : goal.returns
returns c = (
  (λ yes. of_each (λ p. Lead c.args.wanted.now c.args.from p.1) c.args.steps.now c.loop-to.to-index c.loop-to-test.false c.loop-to.invariant),
  (λ each. search rules),
)
