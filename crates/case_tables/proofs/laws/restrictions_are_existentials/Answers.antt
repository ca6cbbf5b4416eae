use Rattle.case_tables.proofs.HeldLaws.{into_has, has_into, over_has, has_over}
use Rattle.case_tables.proofs.laws.restrictions_are_existentials.Goals as goal

pub returns-clause-into : goal.returns-clause-into
returns-clause-into c case filler entry = (into_has case filler entry, has_into case filler entry)

pub returns-clause-over : goal.returns-clause-over
returns-clause-over c case role entry = (over_has case role entry, has_over case role entry)
