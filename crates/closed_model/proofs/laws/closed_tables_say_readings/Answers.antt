use Rattle.el_logic.specs.declared.types.Part.{Part}
use Rattle.fact_table.specs.Lists.{facts_of}
use Rattle.closed_model.proofs.Stated.{stated, closed_for_list}
use Rattle.closed_model.proofs.laws.closed_tables_say_readings.Goals as goal

pub returns-clause-reading : goal.returns-clause-reading
returns-clause-reading c table is_case closed =
    let facts = facts_of table.items in
    c.closed_facts_have_a_model.ensures.reading table.case.store.nodes (stated table.case Part.Both table.ranks) facts
    (c.cases_have_nodes.ensures.nodes table.case is_case) (closed_for_list table.case Part.Both table.ranks facts closed.closed)

pub returns-clause-members : goal.returns-clause-members
returns-clause-members c table node is_case closed must =
    let facts = facts_of table.items in
    c.closed_facts_have_a_model.ensures.members table.case.store.nodes (stated table.case Part.Both table.ranks) facts node
    (closed_for_list table.case Part.Both table.ranks facts closed.closed)
    (c.cases_have_nodes.ensures.must_have table.case node is_case must) (closed.live node must)
