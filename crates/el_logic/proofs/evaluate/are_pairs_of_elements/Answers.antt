use Rattle.std.proofs.Common.{◌<◌, rules}
use Rattle.el_logic.proofs.Walks.{all_more, all_passed}
use Rattle.el_logic.proofs.evaluate.are_pairs_of_elements.Goals as goal

pub loop-from-preserved : goal.loop-from-preserved
loop-from-preserved c =
    all_more (λ p. (p.0 < c.args.size) × (p.1 < c.args.size)) c.args.pairs.now c.loop-from.from-index (0, 0) c.loop-from-test.true c.loop-from.invariant
    (c.if-from-size.false, c.if-to-size.false)

pub returns : goal.returns
returns c = (
  (λ yes. all_passed (λ p. (p.0 < c.args.size) × (p.1 < c.args.size)) c.args.pairs.now c.loop-from.from-index c.loop-from-test.false c.loop-from.invariant),
  (λ all. search rules),
)
