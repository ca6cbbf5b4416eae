use Rattle.std.proofs.Common.{ℕ, All, rules}
use Rattle.el_logic.specs.Meaning.{AreRelated}
use Rattle.el_logic.proofs.Walks.{all_more, all_passed, refuted}
use Rattle.el_logic.proofs.evaluate.are_equivalent_properties.Goals as goal

pub returns-then-not-is_property_within_each : goal.returns-then-not-is_property_within_each
returns-then-not-is_property_within_each c = (
  (λ no. search rules),
  (λ all. absurd (refuted c.is_property_within_each.result c.if-not-is_property_within_each.true (c.is_property_within_each.ensures.1
      (all c.loop-operand.operand-index 0 c.loop-operand-test.true)))),
)

pub loop-operand-preserved : goal.loop-operand-preserved
loop-operand-preserved c =
    all_more (λ r. All (λ s. (x y : ℕ) → AreRelated c.args.i.now r x y → AreRelated c.args.i.now s x y) c.args.operands.now) c.args.operands.now
    c.loop-operand.operand-index 0 c.loop-operand-test.true c.loop-operand.invariant
    (c.is_property_within_each.ensures.0 c.if-not-is_property_within_each.false)

pub returns : goal.returns
returns c = (
  (λ yes. all_passed (λ r. All (λ s. (x y : ℕ) → AreRelated c.args.i.now r x y → AreRelated c.args.i.now s x y) c.args.operands.now) c.args.operands.now
      c.loop-operand.operand-index c.loop-operand-test.false c.loop-operand.invariant),
  (λ all. search rules),
)
