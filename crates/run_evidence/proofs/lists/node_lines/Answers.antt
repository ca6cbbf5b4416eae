use Rattle.valid_evidence.specs.Items.{line_of_node}
use Rattle.run_evidence.proofs.Loops.{mapped_more}
use Rattle.run_evidence.proofs.lists.node_lines.Goals as goal

pub loop-n-preserved : goal.loop-n-preserved
loop-n-preserved c =
    let more = mapped_more (line_of_node c.args.classes.now.names) c.args.store.now.nodes c.loop-n.n c.node-node.result c.node-node.ensures in
    cc (c.in_ok-push.ensures.items, c.in_ok-line.ensures)
