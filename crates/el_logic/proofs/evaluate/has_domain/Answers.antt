use Rattle.std.proofs.Common.{rules}
use Rattle.el_logic.specs.Meaning.{IsMember}
use Rattle.el_logic.proofs.ChainSteps.{of_related, pair_related}
use Rattle.el_logic.proofs.Walks.{all_more, refuted}
use Rattle.el_logic.proofs.evaluate.has_domain.Goals as goal

pub returns-then-not-member : goal.returns-then-not-member
returns-then-not-member c = (
  (λ no. search rules),
  (λ holds. absurd (refuted c.member.result c.if-not-member.true (c.member.ensures.1
      (holds _ _ (pair_related c.args.i.now c.args.role c.loop-from.from-index c.pairs-from-items.result.now c.pairs-from-items.ensures c.loop-from-test.true))))),
)

pub loop-from-preserved : goal.loop-from-preserved
loop-from-preserved c =
    all_more (λ p. IsMember c.args.i.now p.0 c.args.class.now) c.pairs-from-items.result.now c.loop-from.from-index (0, 0)
    c.loop-from-test.true c.loop-from.invariant (c.member.ensures.0 c.if-not-member.false)

pub returns : goal.returns
returns c = (
  (λ yes. of_related c.args.i.now (λ p. IsMember c.args.i.now p.0 c.args.class.now) c.args.role c.loop-from.from-index c.pairs-from-items.result.now
      c.pairs-from-items.ensures c.loop-from-test.false c.loop-from.invariant),
  (λ holds. search rules),
)
