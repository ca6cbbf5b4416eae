use Rattle.std.proofs.Common.{rules, arith}
use Rattle.el_logic.specs.Meaning.{AreRelated}
use Rattle.el_logic.proofs.Walks.{below_more, refuted}
use Rattle.el_logic.proofs.evaluate.is_reflexive.Goals as goal

pub returns-then-not-is_related : goal.returns-then-not-is_related
returns-then-not-is_related c = (
  (λ no. search rules),
  (λ holds. absurd (refuted c.is_related.result c.if-not-is_related.true (c.is_related.ensures.1 (holds c.loop-x.x c.loop-x-test.true)))),
)

pub loop-x-preserved : goal.loop-x-preserved
loop-x-preserved c =
    below_more (λ x. AreRelated c.args.i.now c.args.role x x) c.loop-x.x c.loop-x.invariant (c.is_related.ensures.0 c.if-not-is_related.false)

pub returns : goal.returns
returns c =
    ((λ yes x within. c.loop-x.invariant x (omega (arith, c.loop-x-test.false, within))), (λ holds. search rules))
