use Rattle.std.proofs.Common.{◌<◌, rules}
use Rattle.el_logic.proofs.Walks.{all_more, all_passed}
use Rattle.el_logic.proofs.evaluate.are_elements.Goals as goal

pub loop-x-preserved : goal.loop-x-preserved
loop-x-preserved c =
    all_more (λ x. x < c.args.size) c.args.numbers.now c.loop-x.x-index 0 c.loop-x-test.true c.loop-x.invariant c.if-x-size.false

pub returns : goal.returns
returns c =
    ((λ yes. all_passed (λ x. x < c.args.size) c.args.numbers.now c.loop-x.x-index c.loop-x-test.false c.loop-x.invariant), (λ all. search rules))
