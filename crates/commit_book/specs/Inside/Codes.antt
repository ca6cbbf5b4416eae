-- By which parts books are told apart.
use Rattle.std.specs.Prelude.{ℕ, List, Option, refl}
use Rattle.std.specs.Coded.{Coded, code_by, coded×, coded_list, coded_option, coded_ℕ}
use Rattle.accuse_core.specs.declared.mark.Mark.{Mark}
use Rattle.accuse_core.specs.declared.journal.Entry.{Entry}
use Rattle.accuse_core.specs.contracts.mark.Mark as mark
use Rattle.accuse_core.specs.contracts.journal.Entry as entry
use Rattle.derivation.specs.declared.types.Step.{Step}
use Rattle.derivation.specs.contracts.types.Step as step
use Rattle.case_file.specs.Cases.{CaseView}
use Rattle.case_file.specs.contracts.case.Case as case
use Rattle.closed_model.specs.ClosedTables.{TableView}
use Rattle.closed_model.specs.contracts.table.ClosedTable as table
use Rattle.commit_book.specs.Books.{BookView}

abbrev BookParts : Type 0
BookParts = CaseView × (List Mark × (List Entry × (TableView × (List (Option (List Step)) × ℕ))))

abbrev pub book_code : Coded BookView
book_code = code_by BookParts
    (coded× case.the_row.coded (coded× (coded_list mark.the_row.coded) (coded× (coded_list entry.the_row.coded)
    (coded× table.the_row.coded (coded× (coded_list (coded_option (coded_list step.the_row.coded))) coded_ℕ)))))
    (λ b. (b.case, (b.marks, (b.entries, (b.table, (b.whys, b.spare))))))
    (λ p. record { case = p.0; marks = p.1.0; entries = p.1.1.0; table = p.1.1.1.0; whys = p.1.1.1.1.0; spare = p.1.1.1.1.1 })
    (λ _. refl)
