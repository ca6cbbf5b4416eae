use Rattle.std.proofs.Common.{length, arith}
use Rattle.fact_table.specs.Groups.{group_at}
use Rattle.rule_steps.specs.Growing.{facts_in}
use Rattle.saturate.specs.Inside.Clashes.{HasClashAt}
use Rattle.saturate.specs.Inside.Rows.{IsEntered}
use Rattle.saturate.specs.Inside.Saturated.{IsCaughtUp}
use Rattle.saturate.proofs.LoopLaws.{grown_length}
use Rattle.saturate.proofs.RowWalks.{walk_all, walk_more}
use Rattle.saturate.proofs.DecideLaws.{at_none}
use Rattle.saturate.proofs.rows.enter_group.Goals as goal

pub enter_place-requires-clause-within : goal.enter_place-requires-clause-within
enter_place-requires-clause-within c =
    let longer = grown_length c.args.grounds.now c.args.layers.now c.loop-place.layers c.loop-place.invariant.grown in
    omega (arith, c.in-Some.ensures.0, c.loop-place.invariant.within, c.requires.within)

pub loop-place-preserved : goal.loop-place-preserved
loop-place-preserved c =
    let grounds = c.args.grounds.now in
    let old = c.loop-place.layers in
    let new = c.enter_place.new.layers in
    let longer = grown_length grounds c.args.layers.now old c.loop-place.invariant.grown in
    let done = at_none c.in_ok-clash.field-0 (IsCaughtUp grounds new × IsEntered grounds c.args.first (facts_in new) c.in-Some.place) (HasClashAt grounds.case (facts_in new)) c.in-None.is
    c.in_ok-clash.ensures.entered in
    record {
      grown = c.growing_takes_nothing_away.ensures.twice grounds c.args.layers.now old new c.loop-place.invariant.grown c.enter_place.ensures.grown;
      caught_up = done.0;
      within = omega (arith, c.in-Some.ensures.0, c.loop-place.invariant.within);
      entered = walk_more grounds c.args.first old new c.enter_place.ensures.grown (λ p. c.growing_takes_nothing_away.ensures.by_inclusions grounds old new c.args.first p c.enter_place.ensures.grown)
          (group_at c.args.side) c.args.group c.loop-place.bound c.in-Some.place c.args.below (omega (arith, c.requires.within)) c.in-Some.ensures c.loop-place.invariant.entered done.1;
    }

pub returns-clause-entered : goal.returns-clause-entered
returns-clause-entered c = (
  c.loop-place.invariant.caught_up,
  walk_all c.args.grounds.now c.args.first (facts_in c.loop-place.layers) c.args.side c.args.group c.loop-place.bound c.args.below c.in_default.ensures c.loop-place.invariant.entered,
)
