use Rattle.std.proofs.Common.{◌≡◌, length, arith, subst}
use Rattle.fact_layers.specs.Tops.{whole}
use Rattle.rule_steps.specs.Counted.{IsCounted, nodes_of}
use Rattle.rule_steps.specs.Growing.{facts_in}
use Rattle.rule_steps.specs.Answering.{AreClosedBelow}
use Rattle.saturate.proofs.ClashLaws.{facts_length}
use Rattle.saturate.proofs.LoopLaws.{grown_length}
use Rattle.saturate.proofs.closing.close.Goals as goal

pub returns-then-place-len-clause-closed : goal.returns-then-place-len-clause-closed
returns-then-place-len-clause-closed c =
    let count = facts_length (whole c.loop-place.layers) in
    let at_end : c.loop-place.place ≡ length (facts_in c.loop-place.layers) = omega arith in
    subst (λ n. AreClosedBelow (nodes_of c.args.grounds.now) (IsCounted c.args.grounds.now) n (facts_in c.loop-place.layers)) at_end c.loop-place.invariant.closed

pub loop-place-preserved : goal.loop-place-preserved
loop-place-preserved c =
    let count = facts_length (whole c.loop-place.layers) in
    let longer = grown_length c.args.grounds.now c.loop-place.layers c.answer.new.layers c.answer.ensures.grown in
    record {
      grown = c.growing_takes_nothing_away.ensures.twice c.args.grounds.now c.args.layers.now c.loop-place.layers c.answer.new.layers c.loop-place.invariant.grown c.answer.ensures.grown;
      within = omega arith;
      closed = c.an_answered_place_is_closed.ensures c.args.grounds.now c.loop-place.place (facts_in c.answer.new.layers)
          (c.growing_takes_nothing_away.ensures.closed c.args.grounds.now c.loop-place.layers c.answer.new.layers c.loop-place.place c.answer.ensures.grown c.loop-place.invariant.within c.loop-place.invariant.closed)
          c.in_ok-answer.ensures.answered;
    }
