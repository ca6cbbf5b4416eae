use Rattle.rule_steps.specs.Growing.{facts_in, HasGrown}
use Rattle.saturate.specs.Inside.Rows.{AreEntered}
use Rattle.saturate.specs.Inside.Saturated.{IsCaughtUp}
use Rattle.saturate.proofs.RowWalks.{IsLinkBelow}
use Rattle.saturate.proofs.rows.enter_links.Given as goal

abbrev pub invariant-loop-node : goal.invariant-loop-node
invariant-loop-node l = record {
  grown : HasGrown l.grounds l.fn.layers l.layers;
  caught_up : IsCaughtUp l.grounds l.layers;
  entered : AreEntered l.grounds l.first l.below (IsLinkBelow l.role l.node) (facts_in l.layers);
}
