use Rattle.std.proofs.Common.{◌≤◌, length}
use Rattle.rule_steps.specs.Counted.{IsCounted, nodes_of}
use Rattle.rule_steps.specs.Growing.{facts_in, HasGrown}
use Rattle.rule_steps.specs.Answering.{AreClosedBelow}
use Rattle.saturate.proofs.closing.close.Given as goal

abbrev pub invariant-loop-place : goal.invariant-loop-place
invariant-loop-place l = record {
  grown : HasGrown l.grounds l.fn.layers l.layers;
  within : l.place ≤ length (facts_in l.layers);
  closed : AreClosedBelow (nodes_of l.grounds) (IsCounted l.grounds) l.place (facts_in l.layers);
}
