use Rattle.std.proofs.Common.{subst, sym, rules}
use Rattle.el_logic.specs.Meaning.{AreDisjoint}
use Rattle.el_logic.proofs.Walks.{all_more, all_passed, refuted}
use Rattle.el_logic.proofs.evaluate.is_apart_from_each.Goals as goal

pub returns-then-not-is_apart : goal.returns-then-not-is_apart
returns-then-not-is_apart c = (
  (λ no. search rules),
  (λ all. absurd (refuted c.is_apart.result c.if-not-is_apart.true (c.is_apart.ensures.1
      (subst (AreDisjoint c.args.i.now c.args.one.now) (sym c.other-item.is) (all c.loop-other.other-index c.other-item.result c.loop-other-test.true))))),
)

pub loop-other-preserved : goal.loop-other-preserved
loop-other-preserved c =
    all_more (AreDisjoint c.args.i.now c.args.one.now) c.args.others.now c.loop-other.other-index c.other-item.result
    c.loop-other-test.true c.loop-other.invariant
    (subst (AreDisjoint c.args.i.now c.args.one.now) c.other-item.is (c.is_apart.ensures.0 c.if-not-is_apart.false))

pub returns : goal.returns
returns c = (
  (λ yes. all_passed (AreDisjoint c.args.i.now c.args.one.now) c.args.others.now c.loop-other.other-index c.loop-other-test.false c.loop-other.invariant),
  (λ all. search rules),
)
