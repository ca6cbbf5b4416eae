use Rattle.std.proofs.Common.{◌∙◌, All, sym, subst, rules}
use Rattle.std.proofs.lemmas.Bool.{false≢true}
use Rattle.std.proofs.lemmas.List.{take_all}
use Rattle.std.proofs.lemmas.List.Elements.{All-more}
use Rattle.model_members.specs.Inside.Sets.{HasMembers}
use Rattle.model_members.proofs.classes.each_has_members.Goals as goal

pub returns-then-not-same : goal.returns-then-not-same
returns-then-not-same c =
    let Same = HasMembers c.args.lists.now.ordered c.args.set.now in (
      (λ yes. absurd (false≢true yes)),
      (λ each. sym c.if-not-same.true
          ∙ c.in_ok-same.ensures.1 (subst Same (sym c.operand-item.is) (each c.loop-operand.operand-index c.operand-item.result c.loop-operand-test.true))),
    )

pub loop-operand-preserved : goal.loop-operand-preserved
loop-operand-preserved c =
    let Same = HasMembers c.args.lists.now.ordered c.args.set.now in
    All-more Same c.args.operands.now c.loop-operand.operand-index c.operand-item.result c.loop-operand-test.true c.loop-operand.invariant
    (subst Same c.operand-item.is (c.in_ok-same.ensures.0 c.if-not-same.false))

pub returns : goal.returns
returns c = (
  (λ yes. subst (All (HasMembers c.args.lists.now.ordered c.args.set.now)) (take_all c.loop-operand.operand-index c.args.operands.now c.loop-operand-test.false) c.loop-operand.invariant),
  (λ each. search rules),
)
