use Rattle.std.proofs.Common.{◌+◌, length, arith}
use Rattle.fact_table.specs.declared.types.FactGroup.{FactGroup}
use Rattle.fact_table.specs.declared.types.FactSide.{FactSide}
use Rattle.fact_layers.specs.Tops.{whole}
use Rattle.saturate.specs.Inside.Rows.{AreEntered, IsOfGroup}
use Rattle.saturate.proofs.ClashLaws.{nodes_end}
use Rattle.saturate.proofs.RowWalks.{IsLinkBelow, entered_or, link_or, links_all, links_none}
use Rattle.rule_steps.specs.Growing.{facts_in}
use Rattle.saturate.specs.Inside.Clashes.{HasClashAt}
use Rattle.saturate.specs.Inside.Saturated.{IsCaughtUp}
use Rattle.saturate.proofs.LoopLaws.{grown_length}
use Rattle.saturate.proofs.DecideLaws.{at_none}
use Rattle.saturate.proofs.rows.enter_links.Goals as goal

pub loop-node-init : goal.loop-node-init
loop-node-init c = record {
  grown = c.growing_takes_nothing_away.ensures.none c.args.grounds.now c.args.layers.now;
  caught_up = c.requires.caught_up;
  entered = links_none c.args.grounds.now c.args.first c.args.below c.args.role (facts_in c.args.layers.now);
}

pub enter_group-requires-clause-within : goal.enter_group-requires-clause-within
enter_group-requires-clause-within c =
    let longer = grown_length c.args.grounds.now c.args.layers.now c.loop-node.layers c.loop-node.invariant.grown in omega (arith, c.requires.within)

pub loop-node-preserved : goal.loop-node-preserved
loop-node-preserved c =
    let grounds = c.args.grounds.now in
    let old = c.loop-node.layers in
    let new = c.enter_group.new.layers in
    let longer = grown_length grounds c.args.layers.now old c.loop-node.invariant.grown in
    let done = at_none c.in_ok-clash.field-0 (IsCaughtUp grounds new × AreEntered grounds c.args.first c.args.below (IsOfGroup FactSide.From (FactGroup.Links c.loop-node.node c.args.role)) (facts_in new)) (HasClashAt grounds.case (facts_in new)) c.in-None.is
    c.in_ok-clash.ensures.entered in
    record {
      grown = c.growing_takes_nothing_away.ensures.twice grounds c.args.layers.now old new c.loop-node.invariant.grown c.enter_group.ensures.grown;
      caught_up = done.0;
      entered = entered_or grounds c.args.first old new c.enter_group.ensures.grown (λ p. c.growing_takes_nothing_away.ensures.by_inclusions grounds old new c.args.first p c.enter_group.ensures.grown)
          c.args.below (IsLinkBelow c.args.role c.loop-node.node) (IsOfGroup FactSide.From (FactGroup.Links c.loop-node.node c.args.role)) (IsLinkBelow c.args.role (c.loop-node.node + 1)) (omega (arith, c.requires.within))
          (link_or c.args.role c.loop-node.node) c.loop-node.invariant.entered done.1;
    }

pub returns-clause-entered : goal.returns-clause-entered
returns-clause-entered c =
    let grounds = c.args.grounds.now in
    let new = c.loop-node.layers in
    let past = nodes_end grounds.case c.store.result.now c.nodes-node-end.result c.loop-node.node c.store.ensures c.nodes-node-end.ensures c.loop-node-test.false in (
      c.loop-node.invariant.caught_up,
      links_all grounds c.args.first c.args.below c.args.role c.loop-node.node (facts_in new)
          (λ k a r b at. let from = c.links_lead_from_nodes.ensures grounds (whole new) k a r b c.loop-node.invariant.caught_up.derived at in omega (arith, from, past))
          c.loop-node.invariant.entered,
    )
