use Rattle.std.proofs.Common.{length, rules, arith}
use Rattle.el_logic.specs.Meaning.{IsMember}
use Rattle.el_logic.proofs.ModelLaws.{member_below}
use Rattle.el_logic.proofs.Walks.{below_more, refuted}
use Rattle.el_logic.proofs.evaluate.is_within.Goals as goal

pub loop-x-preserved-then-not-member : goal.loop-x-preserved-then-not-member
loop-x-preserved-then-not-member c =
    below_more (λ x. IsMember c.args.i.now x c.args.lower.now → IsMember c.args.i.now x c.args.upper.now) c.loop-x.x c.loop-x.invariant
    (λ member. absurd (refuted c.member.result c.if-not-member.true (c.member.ensures.1 member)))

pub returns : goal.returns
returns c = (
  (λ yes x member. c.loop-x.invariant x
      (omega (arith, c.loop-x-test.false, member_below (length c.args.i.now.classes) (length c.args.i.now.roles) c.args.i.now x c.args.lower.now c.requires member)) member),
  (λ within. search rules),
)
