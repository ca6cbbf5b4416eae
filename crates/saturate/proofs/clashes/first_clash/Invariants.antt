use Rattle.rule_steps.specs.Growing.{facts_in}
use Rattle.saturate.specs.Inside.Clashes.{AreLiveNodes}
use Rattle.saturate.proofs.clashes.first_clash.Given as goal

abbrev pub invariant-loop-node : goal.invariant-loop-node
invariant-loop-node l = AreLiveNodes l.case l.node (facts_in l.layers)
