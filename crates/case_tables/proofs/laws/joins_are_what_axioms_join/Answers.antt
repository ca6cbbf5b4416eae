use Rattle.case_tables.specs.Entries.{joins_said}
use Rattle.case_tables.proofs.EntryLaws.{said_has, has_said}
use Rattle.case_tables.proofs.JoinLaws.{JoinsOf, join_has, has_join, second_has, has_second}
use Rattle.case_tables.proofs.laws.joins_are_what_axioms_join.Goals as goal

pub returns-clause-first : goal.returns-clause-first
returns-clause-first c case role entry =
    (said_has joins_said (λ e. e.source) JoinsOf join_has case role entry, has_said joins_said (λ e. e.source) JoinsOf has_join case role entry)

pub returns-clause-second : goal.returns-clause-second
returns-clause-second c case role entry = (second_has case role entry, has_second case role entry)
