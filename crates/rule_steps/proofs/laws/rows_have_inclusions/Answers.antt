use Rattle.rule_steps.proofs.RowLaws.{rows_include, reflexive_no}
use Rattle.rule_steps.proofs.laws.rows_have_inclusions.Goals as goal

pub returns-clause-rows : goal.returns-clause-rows
returns-clause-rows c = rows_include

pub returns-clause-reflexive : goal.returns-clause-reflexive
returns-clause-reflexive c = reflexive_no
