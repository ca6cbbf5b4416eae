use Rattle.std.proofs.Common.{◌≡◌, ◌+◌, ◌≤◌, [], ap, sym, subst, arith}
use Rattle.std.proofs.lemmas.Option.{slice_get_within}
use Rattle.el_logic.specs.declared.types.Part.{Part}
use Rattle.concept_store.specs.Order.{AreInOrder}
use Rattle.concept_store.specs.Reading.{MeansTheSameIn}
use Rattle.concept_store.specs.Roles.{Numbered, store_of}
use Rattle.fact_table.specs.Lists.{facts_of}
use Rattle.el_rules.specs.Closing.{HasRole, live_nodes}
use Rattle.case_file.specs.Cases.{CaseView}
use Rattle.case_tables.specs.Tables.{TableLists}
use Rattle.closed_model.specs.ClosedTables.{TableView}
use Rattle.closed_model.specs.Models.{reading_of}
use Rattle.closed_model.proofs.ListLaws.{all_if_each}
use Rattle.closed_model.proofs.Stated.{stated, is_stated, closed_for_list}
use Rattle.closed_model.proofs.ModelLaws.{all_hold, has_member}
use Rattle.closed_model.proofs.SaidInterp.{exists}
use Rattle.closed_model.proofs.laws.closed_facts_show_members.Goals as goal

-- look-up tables matter to no reading
no_tables : TableLists
no_tables = record {
  inclusions = [];
  operands = [];
  wholes = [];
  restrictions_into = [];
  role_inclusions = [];
  joins_from = [];
  joins_by_second = [];
  domains = [];
  restrictions_over = [];
  reflexive = [];
}

pub returns : goal.returns
returns c case part ranks items node is_case below closed live_thing live must empty =
    let facts = facts_of items in
    let table : TableView = record { case = case; tables = no_tables; ranks = ranks; items = items } in
    let given = is_case.given in
    let listed = closed_for_list case part ranks facts closed in
    let nodes = c.cases_have_nodes.ensures.nodes case is_case in
    let store_is : store_of case.classes case.properties case.left case.right ≡ case.store = sym (ap (λ (v : CaseView). v.store) is_case.built) in
    let order = subst (λ (s : Numbered). AreInOrder case.classes case.properties s.nodes) store_is (c.nodes_stand_in_order.ensures case.classes case.properties case.left case.right given.left given.right) in
    let reading = c.closed_facts_have_a_model.ensures.reading case.store.nodes (stated case part ranks) facts nodes listed in
    let thing = c.closed_facts_have_a_model.ensures.members case.store.nodes (stated case part ranks) facts 0 listed (slice_get_within case.store.nodes 0 _ order.thing) live_thing in
    let there = c.closed_facts_have_a_model.ensures.members case.store.nodes (stated case part ranks) facts node listed (c.cases_have_nodes.ensures.must_have case node is_case must) live in
    let within = slice_get_within (live_nodes case.store.nodes facts) thing.0 0 thing.1 in
    let some : 1 ≤ (reading_of table).size = omega (arith, within) in
    let found = exists table some reading.inside reading.linked_inside in
    empty found.0
    (record {
      fits = found.1.fits;
      holds = all_hold table order reading found.0 found.1 part below
          (subst (λ (s : Numbered). MeansTheSameIn case.classes case.properties s.nodes case.left s.left) store_is (c.stores_mean_the_same.ensures.left case.classes case.properties case.left case.right given.left given.right))
          (subst (λ (s : Numbered). MeansTheSameIn case.classes case.properties s.nodes case.right s.right) store_is (c.stores_mean_the_same.ensures.right case.classes case.properties case.left case.right given.left given.right))
          (λ rank rank_below. c.rows_mean_the_same.ensures case rank is_case rank_below)
          (c.closed_facts_have_a_model.ensures.holds case.store.nodes (stated case part ranks) facts nodes
          (all_if_each HasRole (stated case part ranks) (λ axiom' there'. c.cases_have_nodes.ensures.chains case part ranks axiom' is_case (is_stated case part ranks axiom' there')))
          listed);
    })
    there.0 (has_member table order reading found.0 found.1 node must there.0 there.2)
