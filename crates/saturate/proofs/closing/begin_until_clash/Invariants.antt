use Rattle.rule_steps.specs.Counted.{IsCounted, nodes_of}
use Rattle.rule_steps.specs.Growing.{facts_in, HasGrown}
use Rattle.rule_steps.specs.Answering.{AreBegunBelow}
use Rattle.saturate.specs.Inside.Saturated.{IsCaughtUp}
use Rattle.saturate.proofs.closing.begin_until_clash.Given as goal

abbrev pub invariant-loop-node : goal.invariant-loop-node
invariant-loop-node l = record {
  grown : HasGrown l.grounds l.fn.layers l.layers;
  caught_up : IsCaughtUp l.grounds l.layers;
  begun : AreBegunBelow (nodes_of l.grounds) (IsCounted l.grounds) l.node (facts_in l.layers);
}
