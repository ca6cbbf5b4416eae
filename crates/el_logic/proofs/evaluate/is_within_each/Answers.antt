use Rattle.std.proofs.Common.{subst, rules}
use Rattle.el_logic.specs.Meaning.{IsWithin}
use Rattle.el_logic.proofs.Walks.{all_more, all_passed}
use Rattle.el_logic.proofs.evaluate.is_within_each.Goals as goal

pub loop-upper-preserved : goal.loop-upper-preserved
loop-upper-preserved c =
    all_more (IsWithin c.args.i.now c.args.lower.now) c.args.uppers.now c.loop-upper.upper-index c.upper-item.result
    c.loop-upper-test.true c.loop-upper.invariant
    (subst (IsWithin c.args.i.now c.args.lower.now) c.upper-item.is (c.is_within.ensures.0 c.if-not-is_within.false))

pub returns : goal.returns
returns c = (
  (λ yes. all_passed (IsWithin c.args.i.now c.args.lower.now) c.args.uppers.now c.loop-upper.upper-index c.loop-upper-test.false c.loop-upper.invariant),
  (λ all. search rules),
)
