use Rattle.std.proofs.Common.{rules, subst}
use Rattle.el_logic.specs.Meaning.{IsMember}
use Rattle.el_logic.proofs.Walks.{all_more}
use Rattle.el_logic.proofs.MemberSteps.{leads, none_leads, all_belong, in_domain}
use Rattle.el_logic.proofs.evaluate.+member.Goals as goal

pub loop-operand-preserved : goal.loop-operand-preserved
loop-operand-preserved t c =
    all_more (IsMember c.args.i.now c.args.x) c.as_slice-operand-items.result.now c.loop-operand.operand-index c.operand-item.result
    c.loop-operand-test.true c.loop-operand.invariant
    (subst (IsMember c.args.i.now c.args.x) c.operand-item.is (c.member.ensures.0 (search rules)))

pub returns-then-member : goal.returns-then-member
returns-then-member t c = (
  (λ yes. leads c.args.i.now c.args.x c.in-Exists.role c.loop-from.from-index c.args.e.now c.in-Exists.filler c.pairs-from-items.result.now
      c.in-Exists.is c.pairs-from-items.ensures c.loop-from-test.true c.if-from-x.true
      (subst (IsMember c.args.i.now _) c.get.ensures (c.member-then-from-x.ensures.0 (search rules)))),
  (λ member. search rules),
)

pub returns-after-loop-operand : goal.returns-after-loop-operand
returns-after-loop-operand t c = (
  (λ within. all_belong c.args.i.now c.args.x c.loop-operand.operand-index c.args.e.now c.in-And.operands c.as_slice-operand-items.result.now
      c.in-And.is c.as_slice-operand-items.ensures c.loop-operand-test.false c.loop-operand.invariant (search rules)),
  (λ member. let within = in_domain c.args.i.now c.args.x c.args.e.now c.in-And.operands c.in-And.is member in search rules),
)

pub returns-after-loop-from : goal.returns-after-loop-from
returns-after-loop-from t c = (
  (λ no. search rules),
  (λ member. absurd (none_leads c.args.i.now c.args.x c.in-Exists.role c.loop-from.from-index c.args.e.now c.in-Exists.filler c.pairs-from-items.result.now
      c.in-Exists.is c.pairs-from-items.ensures c.loop-from-test.false c.loop-from.invariant member)),
)
