use Rattle.std.proofs.Common.{sym, subst}
use Rattle.el_logic.specs.Meaning.{IsMember}
use Rattle.model_members.proofs.among.first_named.Goals as goal

pub returns-in-Some : goal.returns-in-Some
returns-in-Some c = record {
  elements = c.in-Some.ensures.ordered;
  all = λ x each. (c.in-Some.ensures.same x).1
      (subst (IsMember c.args.lists.now.ordered x) (sym c.operand-item.is) (each c.loop-operand.operand-index c.operand-item.result c.loop-operand-test.true));
}
