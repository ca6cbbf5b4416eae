use Rattle.std.proofs.Common.{refl}
use Rattle.std.specs.Fmt.{digits}
use Rattle.status_lines.proofs.laws.lines_of_small_cases.Goals as goal

pub returns-clause-syntax : goal.returns-clause-syntax
unfolding digits
returns-clause-syntax c = refl

pub returns-clause-profile : goal.returns-clause-profile
unfolding digits
returns-clause-profile c = refl

pub returns-clause-table : goal.returns-clause-table
unfolding digits
returns-clause-table c = refl

pub returns-clause-summary : goal.returns-clause-summary
unfolding digits
returns-clause-summary c = refl
