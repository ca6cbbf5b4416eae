use Rattle.case_tables.specs.Entries.{role_inclusions_said}
use Rattle.el_rules.specs.Saying.{IncludesRole}
use Rattle.case_tables.proofs.EntryLaws.{said_has, has_said, role_inclusion_has, has_role_inclusion}
use Rattle.case_tables.proofs.laws.role_inclusions_are_what_axioms_include.Goals as goal

pub returns : goal.returns
returns c case node entry = (
  said_has role_inclusions_said (λ e. e.source) (λ said key e. IncludesRole said key e.into) role_inclusion_has case node entry,
  has_said role_inclusions_said (λ e. e.source) (λ said key e. IncludesRole said key e.into) has_role_inclusion case node entry,
)
