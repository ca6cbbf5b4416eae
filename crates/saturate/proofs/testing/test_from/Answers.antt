use Rattle.std.proofs.Common.{◌≡◌, ◌∙◌, ap, subst}
use Rattle.std.specs.Arc.{arc_value}
use Rattle.std.proofs.lemmas.List.Elements.{All-contains_itself}
use Rattle.el_logic.specs.declared.types.Part.{Part}
use Rattle.fact_table.specs.declared.types.Fact.TheVariants.{Sub}
use Rattle.fact_layers.specs.Tops.{whole}
use Rattle.case_file.specs.Cases.{CaseView, IsCase}
use Rattle.closed_model.specs.ClosedTables.{TableView}
use Rattle.rule_steps.specs.Growing.{facts_in}
use Rattle.saturate.specs.Inside.Clashes.{HasClashAt}
use Rattle.saturate.specs.Inside.Saturated.{IsLive, table_of}
use Rattle.saturate.proofs.DecideLaws.{at_none, at_some, clash_incoherent, follows_at, good_trace, grounds_at, live_table, node_of_clash, table_as}
use Rattle.saturate.proofs.testing.test_from.Goals as goal

pub trace-requires-clause-earlier : goal.trace-requires-clause-earlier
trace-requires-clause-earlier c =
    let grounds = c.new-grounds.result in
    let case = c.args.snapshot.now.case in
    let ranks = c.args.ranks.now in
    let layers = c.saturate_rows.new.layers in
    let is : grounds ≡ grounds_at case Part.Both ranks = c.new-grounds.ensures ∙ ap (λ (v : CaseView). grounds_at v Part.Both ranks) (c.deref-2.ensures ∙ c.case-case.ensures.case) in
    c.reasons_name_earlier_places.ensures case Part.Both ranks (whole layers) (follows_at grounds case Part.Both ranks (whole layers) is c.saturate_rows.ensures.derived)

pub returns-in_ok-trace-in-Some : goal.returns-in_ok-trace-in-Some
returns-in_ok-trace-in-Some c =
    let grounds = c.new-grounds.result in
    let case = c.args.snapshot.now.case in
    let ranks = c.args.ranks.now in
    let layers = c.saturate_rows.new.layers in
    let items = whole layers in
    let place = c.in-Some.clash in
    let is : grounds ≡ grounds_at case Part.Both ranks = c.new-grounds.ensures ∙ ap (λ (v : CaseView). grounds_at v Part.Both ranks) (c.deref-2.ensures ∙ c.case-case.ensures.case) in
    let is_case = subst IsCase (c.deref.ensures ∙ c.case-case.ensures.case) c.store-case.ensures.case in
    let clash = at_some c.in_ok-clash.field-0 place (IsLive grounds layers) (HasClashAt grounds.case (facts_in layers)) c.in-Some.is c.in_ok-clash.ensures.decided in
    let found = node_of_clash grounds case Part.Both ranks (facts_in layers) place is clash in
    let follows = follows_at grounds case Part.Both ranks items is c.saturate_rows.ensures.derived in (
      clash_incoherent case Part.Both ranks (facts_in layers) place
          (λ node must there. c.facts_show_emptiness.ensures case Part.Both ranks items node is_case c.requires.ranks.below follows must there) found,
      (good_trace case Part.Both ranks items place found.0 c.in_ok-trace-in-Some.field-0 (c.traces_are_good.ensures.good case Part.Both ranks items place c.in_ok-trace-in-Some.field-0 follows c.in_ok-trace-in-Some.ensures)
          (λ item at. c.traces_are_good.ensures.goal items place c.in_ok-trace-in-Some.field-0 item c.in_ok-trace-in-Some.ensures at) found.1
          (c.facts_stand_where_their_items_do.ensures items place (Sub found.0 1) found.2)).0,
    )

pub frozen-requires : goal.frozen-requires
frozen-requires c =
    let grounds = c.new-grounds.result in
    let table = c.args.snapshot.now in
    let ranks = c.args.ranks.now in
    let layers = c.saturate_rows.new.layers in
    let is : grounds ≡ grounds_at table.case Part.Both ranks = c.new-grounds.ensures ∙ ap (λ (v : CaseView). grounds_at v Part.Both ranks) (c.deref-2.ensures ∙ c.case-case.ensures.case) in
    let live = at_none c.in_ok-clash.field-0 (IsLive grounds layers) (HasClashAt grounds.case (facts_in layers)) c.in-None.is c.in_ok-clash.ensures.decided in
    table_as table.case (arc_value c.case-case.result.now) table.tables (arc_value c.tables-in-None.result.now) ranks c.in_ok-ranks-in-None.ranks (whole layers) c.case-case.ensures.case c.tables-in-None.ensures c.in_ok-ranks-in-None.ensures
    (live_table grounds table.case table.tables ranks layers is c.case-case.ensures.closed.tables c.requires.ranks c.saturate_rows.ensures.derived live)

pub returns-in_ok-frozen-in-None : goal.returns-in_ok-frozen-in-None
returns-in_ok-frozen-in-None c =
    let grounds = c.new-grounds.result in
    let table = c.args.snapshot.now in
    let ranks = c.args.ranks.now in
    let layers = c.saturate_rows.new.layers in
    let is : grounds ≡ grounds_at table.case Part.Both ranks = c.new-grounds.ensures ∙ ap (λ (v : CaseView). grounds_at v Part.Both ranks) (c.deref-2.ensures ∙ c.case-case.ensures.case) in
    let is_case = subst IsCase (c.deref.ensures ∙ c.case-case.ensures.case) c.store-case.ensures.case in
    let live = at_none c.in_ok-clash.field-0 (IsLive grounds layers) (HasClashAt grounds.case (facts_in layers)) c.in-None.is c.in_ok-clash.ensures.decided in
    let closed = live_table grounds table.case table.tables ranks layers is c.case-case.ensures.closed.tables c.requires.ranks c.saturate_rows.ensures.derived live in
    let made = c.in_ok-frozen-in-None.ensures in (
      c.a_closed_table_shows_coherence.ensures (table_of table.case table.tables ranks (whole layers)) Part.Both ranks is_case closed (All-contains_itself ranks),
      ap (λ (t : TableView). t.case) made ∙ c.case-case.ensures.case,
      ap (λ (t : TableView). t.ranks) made ∙ c.in_ok-ranks-in-None.ensures,
    )
