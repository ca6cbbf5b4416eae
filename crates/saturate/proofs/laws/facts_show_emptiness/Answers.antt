use Rattle.std.proofs.Common.{sym, ap, subst}
use Rattle.concept_store.specs.Order.{AreInOrder}
use Rattle.concept_store.specs.Roles.{Numbered}
use Rattle.fact_table.specs.declared.types.Fact.TheVariants.{Sub}
use Rattle.fact_table.specs.Lists.{facts_of}
use Rattle.el_rules.specs.Truth.{IsTrueIn}
use Rattle.case_file.specs.Cases.{CaseView}
use Rattle.saturate.proofs.Places.{place_of, held_at}
use Rattle.saturate.proofs.EmptyLaws.{member_in}
use Rattle.saturate.proofs.laws.facts_show_emptiness.Goals as goal

pub returns : goal.returns
returns c case part ranks items node is within follows must there i model x member =
    let ordered = subst (λ (s : Numbered). AreInOrder case.classes case.properties s.nodes) (sym (ap (λ (v : CaseView). v.store) is.built))
    (c.nodes_stand_in_order.ensures case.classes case.properties case.left case.right is.given.left is.given.right) in
    let found = c.models_have_readings.ensures case part ranks i is within model.fits model.holds in
    let m = found.0 in
    let at = place_of (facts_of items) (Sub node 1) there in
    let item = c.facts_stand_where_their_items_do.ensures items at.0 (Sub node 1) at.1 in
    let truth = subst (IsTrueIn m) item.2 (c.what_follows_is_true.ensures case.store.nodes _ part ranks m items item.0 found.2 follows (held_at items at.0 item.0 item.1)) in
    found.1.reading.bottom 1 x found.2.nothing (truth x (member_in case i m found.1 found.2.thing ordered.names node x must member))
