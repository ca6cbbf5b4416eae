use Rattle.std.proofs.Common.{rules}
use Rattle.el_logic.specs.Meaning.{AreRelated}
use Rattle.el_logic.proofs.ChainSteps.{of_related, pair_related}
use Rattle.el_logic.proofs.Walks.{all_more, refuted}
use Rattle.el_logic.proofs.evaluate.is_property_within.Goals as goal

pub returns-then-not-is_related : goal.returns-then-not-is_related
returns-then-not-is_related c = (
  (λ no. search rules),
  (λ within. absurd (refuted c.is_related.result c.if-not-is_related.true (c.is_related.ensures.1
      (within _ _ (pair_related c.args.i.now c.args.lower c.loop-from.from-index c.pairs-from-items.result.now c.pairs-from-items.ensures c.loop-from-test.true))))),
)

pub loop-from-preserved : goal.loop-from-preserved
loop-from-preserved c =
    all_more (λ p. AreRelated c.args.i.now c.args.upper p.0 p.1) c.pairs-from-items.result.now c.loop-from.from-index (0, 0)
    c.loop-from-test.true c.loop-from.invariant (c.is_related.ensures.0 c.if-not-is_related.false)

pub returns : goal.returns
returns c = (
  (λ yes. of_related c.args.i.now (λ p. AreRelated c.args.i.now c.args.upper p.0 p.1) c.args.lower c.loop-from.from-index c.pairs-from-items.result.now
      c.pairs-from-items.ensures c.loop-from-test.false c.loop-from.invariant),
  (λ within. search rules),
)
