use Rattle.std.proofs.Common.{All, subst, rules}
use Rattle.el_logic.specs.Meaning.{IsWithin}
use Rattle.el_logic.proofs.Walks.{all_more, all_passed}
use Rattle.el_logic.proofs.evaluate.are_equivalent.Goals as goal

pub loop-operand-preserved : goal.loop-operand-preserved
loop-operand-preserved c =
    let P : _ → Type 0 = λ one. All (λ other. IsWithin c.args.i.now one other) c.args.operands.now in
    all_more P c.args.operands.now c.loop-operand.operand-index c.operand-item.result
    c.loop-operand-test.true c.loop-operand.invariant
    (subst P c.operand-item.is (c.is_within_each.ensures.0 c.if-not-is_within_each.false))

pub returns : goal.returns
returns c = (
  (λ yes. all_passed (λ one. All (λ other. IsWithin c.args.i.now one other) c.args.operands.now) c.args.operands.now
      c.loop-operand.operand-index c.loop-operand-test.false c.loop-operand.invariant),
  (λ all. search rules),
)
