use Rattle.std.proofs.Common.{◌≡◌, ap, sym, subst}
use Rattle.el_logic.specs.declared.types.Part.{Part}
use Rattle.concept_store.specs.Order.{AreInOrder}
use Rattle.concept_store.specs.Reading.{MeansTheSameIn}
use Rattle.concept_store.specs.Roles.{Numbered, store_of}
use Rattle.fact_table.specs.Lists.{facts_of}
use Rattle.el_rules.specs.Closing.{HasRole}
use Rattle.case_file.specs.Cases.{CaseView}
use Rattle.closed_model.proofs.ListLaws.{all_if_each}
use Rattle.closed_model.proofs.Stated.{stated, is_stated, closed_for_list}
use Rattle.closed_model.proofs.ModelLaws.{all_hold, has_member}
use Rattle.closed_model.proofs.laws.what_a_closed_table_says_is_a_model.Goals as goal

pub returns : goal.returns
returns c table i is_case closed said =
    let case = table.case in
    let facts = facts_of table.items in
    let given = is_case.given in
    let store_is : store_of case.classes case.properties case.left case.right ≡ case.store = sym (ap (λ (v : CaseView). v.store) is_case.built) in
    let order = subst (λ (s : Numbered). AreInOrder case.classes case.properties s.nodes) store_is (c.nodes_stand_in_order.ensures case.classes case.properties case.left case.right given.left given.right) in
    let reading = c.closed_tables_say_readings.ensures.reading table is_case closed in
    record {
      fits = said.fits;
      holds = all_hold table order reading i said Part.Both closed.ranks.below
          (subst (λ (s : Numbered). MeansTheSameIn case.classes case.properties s.nodes case.left s.left) store_is (c.stores_mean_the_same.ensures.left case.classes case.properties case.left case.right given.left given.right))
          (subst (λ (s : Numbered). MeansTheSameIn case.classes case.properties s.nodes case.right s.right) store_is (c.stores_mean_the_same.ensures.right case.classes case.properties case.left case.right given.left given.right))
          (λ rank below. c.rows_mean_the_same.ensures case rank is_case below)
          (c.closed_facts_have_a_model.ensures.holds case.store.nodes (stated case Part.Both table.ranks) facts
          (c.cases_have_nodes.ensures.nodes case is_case)
          (all_if_each HasRole (stated case Part.Both table.ranks) (λ axiom' there. c.cases_have_nodes.ensures.chains case Part.Both table.ranks axiom' is_case (is_stated case Part.Both table.ranks axiom' there)))
          (closed_for_list case Part.Both table.ranks facts closed.closed));
      members = λ node must.
          let there = c.closed_tables_say_readings.ensures.members table node is_case closed must in
          (there.0, has_member table order reading i said node must there.0 there.2);
    }
