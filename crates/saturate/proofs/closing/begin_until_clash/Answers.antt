use Rattle.std.proofs.Common.{◌+◌, length, arith}
use Rattle.fact_layers.specs.Tops.{whole}
use Rattle.rule_steps.specs.Counted.{IsCounted, nodes_of}
use Rattle.rule_steps.specs.Growing.{facts_in}
use Rattle.saturate.specs.Inside.Clashes.{AreLiveWithin, HasClashAt}
use Rattle.saturate.specs.Inside.Saturated.{AreAnsweredWithin}
use Rattle.saturate.proofs.ClashLaws.{facts_length, live_less, nodes_end}
use Rattle.saturate.proofs.LoopLaws.{begun_more, grown_length, live_grown}
use Rattle.saturate.proofs.AnsweredLaws.{caught_more}
use Rattle.saturate.proofs.DecideLaws.{at_none}
use Rattle.saturate.proofs.closing.begin_until_clash.Goals as goal

pub close_until_clash-requires-clause-within : goal.close_until_clash-requires-clause-within
close_until_clash-requires-clause-within c =
    let count = facts_length (whole c.loop-node.layers) in
    let longer = grown_length c.args.grounds.now c.loop-node.layers c.begin.new.layers c.begin.ensures.grown in omega arith

pub close_until_clash-requires-clause-derived : goal.close_until_clash-requires-clause-derived
close_until_clash-requires-clause-derived c = c.begin.ensures.grown.derived c.loop-node.invariant.caught_up.derived

pub close_until_clash-requires-clause-live : goal.close_until_clash-requires-clause-live
close_until_clash-requires-clause-live c =
    let case = c.args.grounds.now.case in
    let old = c.loop-node.layers in
    let count = facts_length (whole old) in
    live_grown c.args.grounds.now case old c.begin.new.layers 0 c.len-from.result c.begin.ensures.grown (omega arith)
    (live_less case (facts_in old) 0 (length (facts_in old)) c.len-from.result (omega arith) c.loop-node.invariant.caught_up.live)

pub loop-node-preserved : goal.loop-node-preserved
loop-node-preserved c =
    let grounds = c.args.grounds.now in
    let old = c.loop-node.layers in
    let begun = c.begin.new.layers in
    let new = c.close_until_clash.new.layers in
    let found = c.in_ok-clash.field-0 in
    let longer = c.growing_takes_nothing_away.ensures.twice grounds old begun new c.begin.ensures.grown c.close_until_clash.ensures.grown in
    record {
      grown = c.growing_takes_nothing_away.ensures.twice grounds c.args.layers.now old new c.loop-node.invariant.grown longer;
      caught_up = caught_more grounds old new (λ p. c.growing_takes_nothing_away.ensures.answered grounds old new p longer) c.len-from.result longer c.len-from.ensures.count c.loop-node.invariant.caught_up
          (at_none found (AreAnsweredWithin grounds c.len-from.result (length (facts_in new)) (facts_in new)) (HasClashAt grounds.case (facts_in new)) c.in-None.is c.in_ok-clash.ensures.answered)
          (at_none found (AreLiveWithin grounds.case 0 (length (facts_in new)) (facts_in new)) (HasClashAt grounds.case (facts_in new)) c.in-None.is c.in_ok-clash.ensures.live);
      begun = c.growing_takes_nothing_away.ensures.begun grounds begun new (c.loop-node.node + 1) c.close_until_clash.ensures.grown
          (begun_more (nodes_of grounds) (IsCounted grounds) c.loop-node.node (facts_in begun)
          (c.growing_takes_nothing_away.ensures.begun grounds old begun c.loop-node.node c.begin.ensures.grown c.loop-node.invariant.begun) c.in_ok-begin.ensures.begun);
    }

pub returns-clause-begun : goal.returns-clause-begun
returns-clause-begun c =
    let past = nodes_end c.args.grounds.now.case c.store.result.now c.nodes-node-end.result c.loop-node.node c.store.ensures c.nodes-node-end.ensures c.loop-node-test.false in
    (c.loop-node.invariant.caught_up, λ node below. c.loop-node.invariant.begun node (omega arith))
