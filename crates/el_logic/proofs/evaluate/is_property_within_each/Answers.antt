use Rattle.std.proofs.Common.{ℕ, rules}
use Rattle.el_logic.specs.Meaning.{AreRelated}
use Rattle.el_logic.proofs.Walks.{all_more, all_passed, refuted}
use Rattle.el_logic.proofs.evaluate.is_property_within_each.Goals as goal

pub returns-then-not-is_property_within : goal.returns-then-not-is_property_within
returns-then-not-is_property_within c = (
  (λ no. search rules),
  (λ all. absurd (refuted c.is_property_within.result c.if-not-is_property_within.true (c.is_property_within.ensures.1
      (all c.loop-upper.upper-index 0 c.loop-upper-test.true)))),
)

pub loop-upper-preserved : goal.loop-upper-preserved
loop-upper-preserved c =
    all_more (λ upper. (x y : ℕ) → AreRelated c.args.i.now c.args.lower x y → AreRelated c.args.i.now upper x y) c.args.uppers.now c.loop-upper.upper-index 0
    c.loop-upper-test.true c.loop-upper.invariant (c.is_property_within.ensures.0 c.if-not-is_property_within.false)

pub returns : goal.returns
returns c = (
  (λ yes. all_passed (λ upper. (x y : ℕ) → AreRelated c.args.i.now c.args.lower x y → AreRelated c.args.i.now upper x y) c.args.uppers.now
      c.loop-upper.upper-index c.loop-upper-test.false c.loop-upper.invariant),
  (λ all. search rules),
)
