use Rattle.std.proofs.Common.{length}
use Rattle.predicate_axioms.specs.RowAxioms.{by_ids}
use Rattle.predicate_axioms.proofs.Ranges.{ids_within, unless_modified}
use Rattle.predicate_axioms.proofs.laws.few_axioms_with_numbers_in_range.Goals as goal

pub returns-clause-within : goal.returns-clause-within
returns-clause-within c = λ classes roles row.
    unless_modified (length classes) (length roles) row.modified (by_ids classes roles row.predicate row.subject row.object)
    (ids_within classes roles row.predicate row.subject row.object)
