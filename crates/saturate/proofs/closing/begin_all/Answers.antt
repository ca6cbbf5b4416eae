use Rattle.std.proofs.Common.{arith}
use Rattle.rule_steps.specs.Counted.{IsCounted, nodes_of}
use Rattle.rule_steps.specs.Growing.{facts_in}
use Rattle.saturate.proofs.ClashLaws.{nodes_end}
use Rattle.saturate.proofs.LoopLaws.{begun_more}
use Rattle.saturate.proofs.closing.begin_all.Goals as goal

pub loop-node-preserved : goal.loop-node-preserved
loop-node-preserved c = record {
  grown = c.growing_takes_nothing_away.ensures.twice c.args.grounds.now c.args.layers.now c.loop-node.layers c.begin.new.layers c.loop-node.invariant.grown c.begin.ensures.grown;
  begun = begun_more (nodes_of c.args.grounds.now) (IsCounted c.args.grounds.now) c.loop-node.node (facts_in c.begin.new.layers)
      (c.growing_takes_nothing_away.ensures.begun c.args.grounds.now c.loop-node.layers c.begin.new.layers c.loop-node.node c.begin.ensures.grown c.loop-node.invariant.begun)
      c.in_ok-begin.ensures.begun;
}

pub returns-clause-begun : goal.returns-clause-begun
returns-clause-begun c node below =
    let past = nodes_end c.args.grounds.now.case c.store.result.now c.nodes-node-end.result c.loop-node.node c.store.ensures c.nodes-node-end.ensures c.loop-node-test.false in
    c.loop-node.invariant.begun node (omega arith)
