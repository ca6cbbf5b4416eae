use Rattle.rule_steps.specs.Counted.{IsCounted, nodes_of}
use Rattle.rule_steps.specs.Growing.{facts_in, HasGrown}
use Rattle.rule_steps.specs.Answering.{AreBegunBelow}
use Rattle.saturate.proofs.closing.begin_all.Given as goal

abbrev pub invariant-loop-node : goal.invariant-loop-node
invariant-loop-node l = record {
  grown : HasGrown l.grounds l.fn.layers l.layers;
  begun : AreBegunBelow (nodes_of l.grounds) (IsCounted l.grounds) l.node (facts_in l.layers);
}
