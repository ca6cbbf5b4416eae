use Rattle.rule_steps.specs.Growing.{facts_in, HasGrown}
use Rattle.std.specs.Prelude.{slice_index_or, []}
use Rattle.saturate.specs.Inside.Rows.{AreEntered, StartFrom}
use Rattle.saturate.specs.Inside.Saturated.{IsCaughtUp}
use Rattle.saturate.proofs.RowWalks.{FirstStart}
use Rattle.saturate.proofs.rows.enter_rows.Given as goal

abbrev pub invariant-loop-rank : goal.invariant-loop-rank
invariant-loop-rank l = record {
  grown : HasGrown l.grounds l.fn.layers l.layers;
  caught_up : IsCaughtUp l.grounds l.layers;
  entered : AreEntered l.grounds l.first l.below (FirstStart l.ranks l.rank-index (λ rank. StartFrom (slice_index_or l.grounds.case.over rank []))) (facts_in l.layers);
}
