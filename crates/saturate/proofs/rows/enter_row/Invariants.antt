use Rattle.rule_steps.specs.Growing.{facts_in, HasGrown}
use Rattle.saturate.specs.Inside.Rows.{AreEntered, StartsFrom}
use Rattle.saturate.specs.Inside.Saturated.{IsCaughtUp}
use Rattle.saturate.proofs.RowWalks.{FirstStart}
use Rattle.saturate.proofs.rows.enter_row.Given as goal

abbrev pub invariant-loop-said : goal.invariant-loop-said
invariant-loop-said l = record {
  grown : HasGrown l.grounds l.fn.layers l.layers;
  caught_up : IsCaughtUp l.grounds l.layers;
  entered : AreEntered l.grounds l.first l.below (FirstStart l.axioms l.said-index StartsFrom) (facts_in l.layers);
}
