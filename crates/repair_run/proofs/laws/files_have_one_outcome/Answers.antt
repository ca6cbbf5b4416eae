use Rattle.repair_run.proofs.OutcomeLaws.{same_out, same_summary}
use Rattle.repair_run.proofs.laws.files_have_one_outcome.Goals as goal

pub returns-clause-out : goal.returns-clause-out
returns-clause-out c =
    let laws = c.texts_have_one_case_or_first_fault.ensures in
    same_out (record { never_both = laws.never_both; one_case = laws.one_case; one_fault = laws.one_fault })

pub returns-clause-summary : goal.returns-clause-summary
returns-clause-summary c =
    let laws = c.texts_have_one_case_or_first_fault.ensures in
    same_summary (record { never_both = laws.never_both; one_case = laws.one_case; one_fault = laws.one_fault })
