use Rattle.std.proofs.Common.{◌≡◌, ◌∙◌, ◌<◌, ℕ, List, [], ◌++◌, length, Contains, ap, sym, arith, subst}
use Rattle.std.proofs.lemmas.List.{append-nil}
use Rattle.std.proofs.lemmas.List.Elements.{All-contains}
use Rattle.el_logic.specs.declared.types.Part.{Part}
use Rattle.fact_table.specs.declared.types.Proved.{Proved}
use Rattle.fact_layers.specs.Tops.{whole}
use Rattle.rule_steps.specs.Growing.{facts_in}
use Rattle.rule_steps.specs.RowAxioms.{HaveRowsInclusions}
use Rattle.case_file.specs.Cases.{CaseView, IsCase, input_of}
use Rattle.saturate.specs.Inside.Clashes.{HasClashAt}
use Rattle.saturate.specs.Inside.Rows.{AreEntered, RowsStartFrom}
use Rattle.saturate.specs.Inside.Saturated.{IsCaughtUp, IsLive}
use Rattle.saturate.proofs.ClashLaws.{facts_length}
use Rattle.saturate.proofs.AnsweredLaws.{caught_so}
use Rattle.saturate.proofs.EnterLaws.{caught_old, live_after_rows, whole_of}
use Rattle.saturate.proofs.saturation.saturate_rows.Goals as goal

pub enter_rows-requires-clause-within : goal.enter_rows-requires-clause-within
enter_rows-requires-clause-within c = let count = facts_length (whole c.args.layers.now) in omega arith

pub enter_rows-requires-clause-caught_up : goal.enter_rows-requires-clause-caught_up
enter_rows-requires-clause-caught_up c =
    let table = c.args.snapshot.now in
    let grounds = c.args.grounds.now in
    let is_case = subst IsCase (c.deref.ensures ∙ c.case.ensures.case) c.store-case.ensures.case in
    let closed = c.case.ensures.closed in
    caught_old table c.args.first c.args.more.now grounds.ranks closed c.requires.added grounds (c.links_are_by_roles.ensures table.case Part.Both table.ranks table.items is_case closed.follow)
    c.args.layers.now c.requires.grounds (whole_of c.args.layers.now table.items c.requires.base c.requires.top) c.requires.top

pub enter_rows-requires-clause-inclusions : goal.enter_rows-requires-clause-inclusions
enter_rows-requires-clause-inclusions c =
    let case = c.args.snapshot.now.case in
    let is_case = subst IsCase (c.deref.ensures ∙ c.case.ensures.case) c.store-case.ensures.case in
    subst (λ (v : CaseView). HaveRowsInclusions v.over) (sym (ap (λ g. g.case) c.requires.grounds))
    (subst HaveRowsInclusions (sym (ap (λ (v : CaseView). v.over) is_case.built)) (c.rows_have_inclusions.ensures.rows (input_of case) is_case.given))

pub enter_rows-requires-clause-ranks : goal.enter_rows-requires-clause-ranks
enter_rows-requires-clause-ranks c rank there =
    subst (λ (v : CaseView). rank < length v.order) (sym (ap (λ g. g.case) c.requires.grounds))
    (All-contains (λ (r : ℕ). r < length c.args.snapshot.now.case.order) c.args.grounds.now.ranks rank c.requires.ranks.below (c.requires.added.added rank there))

pub returns-clause-derived : goal.returns-clause-derived
returns-clause-derived c =
    let table = c.args.snapshot.now in
    let grounds = c.args.grounds.now in
    let is_case = subst IsCase (c.deref.ensures ∙ c.case.ensures.case) c.store-case.ensures.case in
    let closed = c.case.ensures.closed in
    let caught = caught_old table c.args.first c.args.more.now grounds.ranks closed c.requires.added grounds (c.links_are_by_roles.ensures table.case Part.Both table.ranks table.items is_case closed.follow)
    c.args.layers.now c.requires.grounds (whole_of c.args.layers.now table.items c.requires.base c.requires.top) c.requires.top in
    c.enter_rows.ensures.grown.derived caught.derived

pub returns-clause-decided : goal.returns-clause-decided
returns-clause-decided c =
    let table = c.args.snapshot.now in
    let grounds = c.args.grounds.now in
    let new = c.enter_rows.new.layers in
    let first = c.args.first in
    let more = c.args.more.now in
    let is_case = subst IsCase (c.deref.ensures ∙ c.case.ensures.case) c.store-case.ensures.case in
    let closed = c.case.ensures.closed in
    let added = c.requires.added in
    caught_so c.enter_rows.result
    (IsCaughtUp grounds new × AreEntered grounds first c.len-below.result (RowsStartFrom grounds.case.over more) (facts_in new)) (IsLive grounds new) (HasClashAt grounds.case (facts_in new))
    (λ both. live_after_rows table first more grounds.ranks closed added
    c.an_answered_place_is_closed.ensures
    (λ news answered. c.closed_tables_are_closed_for_more_rows.ensures.closed table first more grounds.ranks news is_case closed added answered)
    (λ news. c.closed_tables_are_closed_for_more_rows.ensures.begun table first more grounds.ranks news is_case closed added)
    c.facts_closed_to_the_end_are_closed.ensures
    grounds c.args.layers.now new c.len-below.result c.requires.grounds (whole_of c.args.layers.now table.items c.requires.base c.requires.top) c.requires.top c.len-below.ensures.count c.enter_rows.ensures.grown
    both.0 both.1)
    c.enter_rows.ensures.entered
