use Rattle.el_rules.specs.Saying.{MakesReflexive, HasDomain}
use Rattle.case_tables.specs.Entries.{domains_said, reflexive_said}
use Rattle.case_tables.specs.Tables.{said_in}
use Rattle.case_tables.proofs.Members.{of_key_has, has_of_key}
use Rattle.case_tables.proofs.EntryLaws.{said_has, has_said}
use Rattle.case_tables.proofs.OperandLaws.{domain_has, has_domain, reflexive_has, has_reflexive}
use Rattle.case_tables.proofs.laws.domains_and_reflexive_roles_are_what_axioms_say.Goals as goal

pub returns-clause-domains : goal.returns-clause-domains
returns-clause-domains c case role entry = (
  said_has domains_said (λ e. e.source) (λ said key e. HasDomain said key e.domain) domain_has case role entry,
  has_said domains_said (λ e. e.source) (λ said key e. HasDomain said key e.domain) has_domain case role entry,
)

pub returns-clause-reflexive : goal.returns-clause-reflexive
returns-clause-reflexive c case role entry = (
  λ in'. said_has reflexive_said (λ e. e.source) (λ said key e. MakesReflexive said key) reflexive_has case role entry (has_of_key (said_in reflexive_said case) role entry in'),
  λ says. of_key_has (said_in reflexive_said case) role entry (has_said reflexive_said (λ e. e.source) (λ said key e. MakesReflexive said key) has_reflexive case role entry says),
)
