use Rattle.std.proofs.Common.{◌++◌, length, ap, sym, subst}
use Rattle.std.proofs.lemmas.List.Elements.{Contains-append_left}
use Rattle.el_logic.specs.declared.types.Part.{Part}
use Rattle.fact_table.specs.Lists.{facts_of}
use Rattle.el_rules.specs.Theories.{IsStated}
use Rattle.case_file.specs.Cases.{CaseView, input_of, theory_of}
use Rattle.rule_steps.specs.RowAxioms.{HaveRowsInclusions}
use Rattle.saturate.specs.Inside.Saturated.{grounds_of}
use Rattle.saturate.proofs.OldFacts.{closed_in_longer, begun_in_closed}
use Rattle.saturate.proofs.laws.closed_tables_are_closed_for_more_rows.Goals as goal

pub returns-clause-closed : goal.returns-clause-closed
returns-clause-closed c table first late ranks more is closed added answered =
    let case = table.case in
    let facts = facts_of table.items in
    let rows = subst HaveRowsInclusions (sym (ap (λ (v : CaseView). v.over) is.built)) (c.rows_have_inclusions.ensures.rows (input_of case) is.given) in
    c.further_rows_need_only_their_inclusions.ensures.closed (grounds_of case ranks) table.ranks first (length facts) (facts ++ more) rows added.since
    (closed_in_longer case.store.nodes (IsStated (theory_of case) Part.Both table.ranks) facts more closed.closed)
    answered

pub returns-clause-begun : goal.returns-clause-begun
returns-clause-begun c table first late ranks more is closed added node below rule fact of_node given =
    let case = table.case in
    let facts = facts_of table.items in
    let rows = subst HaveRowsInclusions (sym (ap (λ (v : CaseView). v.over) is.built)) (c.rows_have_inclusions.ensures.rows (input_of case) is.given) in
    Contains-append_left facts more fact (begun_in_closed c.rows_have_inclusions.ensures.reflexive case table.ranks ranks facts rows closed.closed rule fact given)
