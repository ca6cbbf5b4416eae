use Rattle.case_tables.specs.Entries.{inclusions_said}
use Rattle.el_rules.specs.Saying.{Includes}
use Rattle.case_tables.proofs.EntryLaws.{said_has, has_said, inclusion_has, has_inclusion}
use Rattle.case_tables.proofs.laws.inclusions_are_what_axioms_include.Goals as goal

pub returns : goal.returns
returns c case node entry = (
  said_has inclusions_said (λ e. e.source) (λ said key e. Includes said key e.into) inclusion_has case node entry,
  has_said inclusions_said (λ e. e.source) (λ said key e. Includes said key e.into) has_inclusion case node entry,
)
