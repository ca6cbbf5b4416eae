use Rattle.std.proofs.Common.{rules}
use Rattle.std.proofs.lemmas.List.Elements.{All-more}
use Rattle.model_members.specs.Inside.Pairs.{Lead}
use Rattle.model_members.proofs.PairSteps.{of_each}
use Rattle.model_members.proofs.pairs.are_pairs_among.Goals as goal

pub loop-from-preserved : goal.loop-from-preserved
loop-from-preserved c =
    All-more (λ p. Lead c.args.others.now p.0 p.1) c.args.pairs.now c.loop-from.from-index (0, 0) c.loop-from-test.true c.loop-from.invariant
    (c.has_pair.ensures.0 c.if-not-has_pair.false)

pub returns : goal.returns
returns c = (
  (λ yes. of_each (λ p. Lead c.args.others.now p.0 p.1) c.args.pairs.now c.loop-from.from-index c.loop-from-test.false c.loop-from.invariant),
  (λ each. search rules),
)
