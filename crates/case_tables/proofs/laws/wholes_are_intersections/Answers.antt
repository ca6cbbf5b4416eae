use Rattle.case_tables.proofs.HeldLaws.{wholes_has, has_wholes}
use Rattle.case_tables.proofs.laws.wholes_are_intersections.Goals as goal

pub returns : goal.returns
returns c case node entry = (wholes_has case node entry, has_wholes case node entry)
