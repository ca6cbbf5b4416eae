use Rattle.std.proofs.Common.{length, rules, arith}
use Rattle.el_logic.specs.Meaning.{IsMember}
use Rattle.el_logic.proofs.ModelLaws.{member_below}
use Rattle.el_logic.proofs.Walks.{below_more, refuted}
use Rattle.el_logic.proofs.evaluate.is_apart.Goals as goal

pub loop-x-preserved-then-not-member : goal.loop-x-preserved-then-not-member
loop-x-preserved-then-not-member c =
    below_more (λ x. IsMember c.args.i.now x c.args.one.now → ¬ (IsMember c.args.i.now x c.args.other.now)) c.loop-x.x c.loop-x.invariant
    (λ member other. refuted c.member.result c.if-not-member.true (c.member.ensures.1 member))

pub loop-x-preserved : goal.loop-x-preserved
loop-x-preserved c =
    below_more (λ x. IsMember c.args.i.now x c.args.one.now → ¬ (IsMember c.args.i.now x c.args.other.now)) c.loop-x.x c.loop-x.invariant
    (λ member other. refuted c.member-in-loop-x.result c.if-member.false (c.member-in-loop-x.ensures.1 other))

pub returns-then-member : goal.returns-then-member
returns-then-member c = (
  (λ no. search rules),
  (λ disjoint. absurd (disjoint c.loop-x.x (c.member.ensures.0 c.if-not-member.false) (c.member-in-loop-x.ensures.0 c.if-member.true))),
)

pub returns : goal.returns
returns c = (
  (λ yes x member. c.loop-x.invariant x
      (omega (arith, c.loop-x-test.false, member_below (length c.args.i.now.classes) (length c.args.i.now.roles) c.args.i.now x c.args.one.now c.requires member)) member),
  (λ disjoint. search rules),
)
