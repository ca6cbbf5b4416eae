use Rattle.ofn_axiom.proofs.OutsideLaws.{outside_read}
use Rattle.ofn_axiom.proofs.OutsideAxioms.{outside_stands}
use Rattle.ofn_axiom.proofs.laws.items_are_outside_where_they_say.Goals as goal

pub returns : goal.returns
returns c = record { read = outside_read; says = outside_stands }
