use Rattle.std.proofs.Common.{length}
use Rattle.fact_table.specs.declared.types.Fact.TheVariants.{Sub}
use Rattle.rule_steps.specs.Growing.{facts_in}
use Rattle.saturate.proofs.ClashLaws.{absent_not, nodes_end, nodes_less, nodes_more, not_passed}
use Rattle.saturate.proofs.clashes.first_clash.Goals as goal

pub loop-node-preserved-then-not-is_must_have : goal.loop-node-preserved-then-not-is_must_have
loop-node-preserved-then-not-is_must_have c =
    nodes_more c.args.case.now (facts_in c.args.layers.now) c.loop-node.node
    (λ must there. not_passed (c.if-not-is_must_have.ensures.1 must)) c.loop-node.invariant

pub loop-node-preserved : goal.loop-node-preserved
loop-node-preserved c =
    nodes_more c.args.case.now (facts_in c.args.layers.now) c.loop-node.node
    (λ must there. absent_not (facts_in c.args.layers.now) (Sub c.loop-node.node 1) c.in-None.ensures there) c.loop-node.invariant

pub returns : goal.returns
returns c =
    nodes_less c.args.case.now (facts_in c.args.layers.now) c.loop-node.node (length c.args.case.now.store.nodes)
    (nodes_end c.args.case.now c.store.result.now c.nodes-node-end.result c.loop-node.node c.store.ensures.store c.nodes-node-end.ensures c.loop-node-test.false) c.loop-node.invariant
