-- By which parts grounds are told apart.
use Rattle.std.specs.Prelude.{ℕ, List, refl}
use Rattle.std.specs.Coded.{Coded, code_by, coded×, coded_list, coded_ℕ}
use Rattle.el_logic.specs.declared.types.Part.{Part}
use Rattle.el_logic.specs.contracts.types.Part as part
use Rattle.case_file.specs.Cases.{CaseView}
use Rattle.case_file.specs.Inside.Codes.{case_code}
use Rattle.rule_steps.specs.Counted.{GroundsView}

abbrev pub grounds_code : Coded GroundsView
grounds_code = code_by (CaseView × (Part × List ℕ))
    (coded× case_code (coded× part.the_row.coded (coded_list coded_ℕ)))
    (λ g. (g.case, (g.part, g.ranks)))
    (λ p. record { case = p.0; part = p.1.0; ranks = p.1.1 })
    (λ _. refl)
