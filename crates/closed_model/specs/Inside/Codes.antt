-- By which parts closed tables are told apart.
use Rattle.std.specs.Prelude.{ℕ, List, refl}
use Rattle.std.specs.Coded.{Coded, code_by, coded×, coded_list, coded_ℕ}
use Rattle.fact_table.specs.declared.types.Proved.{Proved}
use Rattle.fact_layers.specs.contracts.shared.Base as base
use Rattle.case_file.specs.Cases.{CaseView}
use Rattle.case_file.specs.contracts.case.Case as case
use Rattle.case_tables.specs.Tables.{TableLists}
use Rattle.case_tables.specs.contracts.tables.Tables as tables
use Rattle.closed_model.specs.ClosedTables.{TableView}

abbrev TableParts : Type 0
TableParts = CaseView × (TableLists × (List ℕ × List Proved))

abbrev pub table_code : Coded TableView
table_code = code_by TableParts
    (coded× case.the_row.coded (coded× tables.the_row.coded (coded× (coded_list coded_ℕ) base.the_row.coded)))
    (λ t. (t.case, (t.tables, (t.ranks, t.items))))
    (λ p. record { case = p.0; tables = p.1.0; ranks = p.1.1.0; items = p.1.1.1 })
    (λ _. refl)
