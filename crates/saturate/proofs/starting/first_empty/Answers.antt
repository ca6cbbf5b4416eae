use Rattle.std.proofs.Common.{ℕ, [], ◌<◌, length}
use Rattle.std.proofs.lemmas.List.Elements.{All-nil}
use Rattle.fact_table.specs.declared.types.Fact.TheVariants.{Sub}
use Rattle.fact_layers.specs.Tops.{whole}
use Rattle.rule_steps.specs.Growing.{facts_in}
use Rattle.saturate.proofs.DecideLaws.{closed_at, first_shown, follows_at, good_trace, none_incoherent, place_within}
use Rattle.saturate.proofs.starting.first_empty.Goals as goal

pub returns-in_default : goal.returns-in_default
returns-in_default c =
    let case = c.args.case.now in
    let layers = c.saturate_all.new.layers in
    let is_case = c.store-case.ensures.case in
    let closed = closed_at c.new-grounds.result case c.args.part [] layers c.new-grounds.ensures c.in_ok-saturate_all.ensures.saturated in
    none_incoherent case c.args.part [] (facts_in layers)
    (λ node live_thing live must. c.closed_facts_show_members.ensures case c.args.part [] (whole layers) node is_case (All-nil (λ (rank : ℕ). rank < length case.order)) closed live_thing live must)
    (λ node must. c.cases_have_nodes.ensures.must_have case node is_case must) c.in_default.ensures

pub trace-requires-clause-within : goal.trace-requires-clause-within
trace-requires-clause-within c = place_within (whole c.saturate_all.new.layers) c.in-Some.found.1 (Sub c.in-Some.found.0 1) c.in-Some.ensures.at

pub trace-requires-clause-earlier : goal.trace-requires-clause-earlier
trace-requires-clause-earlier c =
    let case = c.args.case.now in
    let layers = c.saturate_all.new.layers in
    c.reasons_name_earlier_places.ensures case c.args.part [] (whole layers) (follows_at c.new-grounds.result case c.args.part [] (whole layers) c.new-grounds.ensures c.saturate_all.ensures.derived)

pub returns : goal.returns
returns c =
    let case = c.args.case.now in
    let layers = c.saturate_all.new.layers in
    let items = whole layers in
    let is_case = c.store-case.ensures.case in
    let node = c.in-Some.found.0 in
    let place = c.in-Some.found.1 in
    let steps = c.in_ok-derivation.derivation in
    let closed = closed_at c.new-grounds.result case c.args.part [] layers c.new-grounds.ensures c.in_ok-saturate_all.ensures.saturated in
    let follows = follows_at c.new-grounds.result case c.args.part [] items c.new-grounds.ensures c.saturate_all.ensures.derived in
    first_shown case c.args.part (facts_in layers) node place steps
    (λ other live_thing live must. c.closed_facts_show_members.ensures case c.args.part [] items other is_case (All-nil (λ (rank : ℕ). rank < length case.order)) closed live_thing live must)
    (λ must there. c.facts_show_emptiness.ensures case c.args.part [] items node is_case (All-nil (λ (rank : ℕ). rank < length case.order)) follows must there)
    c.in-Some.ensures
    (good_trace case c.args.part [] items place node steps (c.traces_are_good.ensures.good case c.args.part [] items place steps follows c.in_ok-derivation.ensures)
    (λ item at. c.traces_are_good.ensures.goal items place steps item c.in_ok-derivation.ensures at) c.in-Some.ensures.must_have
    (c.facts_stand_where_their_items_do.ensures items place (Sub node 1) c.in-Some.ensures.at))
