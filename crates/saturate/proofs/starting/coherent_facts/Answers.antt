use Rattle.std.proofs.Common.{ℕ, [], ◌<◌, length, refl}
use Rattle.std.proofs.lemmas.List.Elements.{All-nil}
use Rattle.el_logic.specs.declared.types.Part.{Part}
use Rattle.fact_layers.specs.Tops.{whole}
use Rattle.rule_steps.specs.Growing.{facts_in}
use Rattle.saturate.specs.Inside.Clashes.{HasClashAt}
use Rattle.saturate.specs.Inside.Saturated.{IsLive}
use Rattle.saturate.proofs.DecideLaws.{at_none, at_some, clash_incoherent, follows_at, live_table, no_ranks, node_of_clash}
use Rattle.saturate.proofs.starting.coherent_facts.Goals as goal

pub returns-in-None : goal.returns-in-None
returns-in-None c =
    let grounds = c.new-grounds.result in
    let layers = c.saturate_by_nodes.new.layers in
    live_table grounds c.args.case.now c.args.tables.now [] layers c.new-grounds.ensures c.requires (no_ranks c.args.case.now [] refl) c.saturate_by_nodes.ensures.derived
    (at_none c.in_ok-saturate_by_nodes.field-0 (IsLive grounds layers) (HasClashAt grounds.case (facts_in layers)) c.in-None.is c.in_ok-saturate_by_nodes.ensures.decided)

pub returns-in-Some : goal.returns-in-Some
returns-in-Some c =
    let grounds = c.new-grounds.result in
    let case = c.args.case.now in
    let layers = c.saturate_by_nodes.new.layers in
    let clash = at_some c.in_ok-saturate_by_nodes.field-0 c.in-Some.field-0 (IsLive grounds layers) (HasClashAt grounds.case (facts_in layers)) c.in-Some.is c.in_ok-saturate_by_nodes.ensures.decided in
    let follows = follows_at grounds case Part.Both [] (whole layers) c.new-grounds.ensures c.saturate_by_nodes.ensures.derived in
    clash_incoherent case Part.Both [] (facts_in layers) c.in-Some.field-0
    (λ node must there. c.facts_show_emptiness.ensures case Part.Both [] (whole layers) node c.store-case.ensures.case (All-nil (λ (rank : ℕ). rank < length case.order)) follows must there)
    (node_of_clash grounds case Part.Both [] (facts_in layers) c.in-Some.field-0 c.new-grounds.ensures clash)
