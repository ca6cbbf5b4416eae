use Rattle.std.proofs.Common.{◌≡◌, List, [], length, ap, arith, subst}
use Rattle.fact_table.specs.declared.types.Proved.{Proved}
use Rattle.fact_table.specs.Lists.{facts_of}
use Rattle.fact_layers.specs.Tops.{whole}
use Rattle.rule_steps.specs.Counted.{IsCounted, nodes_of}
use Rattle.rule_steps.specs.Growing.{facts_in}
use Rattle.rule_steps.specs.Answering.{AreBegunBelow}
use Rattle.saturate.specs.Inside.Clashes.{HasClashAt}
use Rattle.saturate.specs.Inside.Saturated.{IsCaughtUp, IsLive}
use Rattle.saturate.proofs.AnsweredLaws.{caught_so, caught_empty, live_from_nothing}
use Rattle.saturate.proofs.saturation.saturate_by_nodes.Goals as goal

pub begin_until_clash-requires : goal.begin_until_clash-requires
begin_until_clash-requires c = caught_empty c.args.grounds.now c.args.layers.now c.requires

pub returns-clause-derived : goal.returns-clause-derived
returns-clause-derived c = c.begin_until_clash.ensures.grown.derived (caught_empty c.args.grounds.now c.args.layers.now c.requires).derived

pub returns-clause-decided : goal.returns-clause-decided
returns-clause-decided c =
    let grounds = c.args.grounds.now in
    let new = c.begin_until_clash.new.layers in
    caught_so c.begin_until_clash.result
    (IsCaughtUp grounds new × AreBegunBelow (nodes_of grounds) (IsCounted grounds) (length (nodes_of grounds)) (facts_in new)) (IsLive grounds new) (HasClashAt grounds.case (facts_in new))
    (λ both. live_from_nothing grounds c.args.layers.now new (λ p. c.an_answered_place_is_closed.ensures grounds p (facts_in new)) (c.facts_closed_to_the_end_are_closed.ensures grounds (facts_in new))
    c.requires c.begin_until_clash.ensures.grown both.0 both.1)
    c.begin_until_clash.ensures.begun
