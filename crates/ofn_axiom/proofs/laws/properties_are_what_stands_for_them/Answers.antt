use Rattle.ofn_axiom.proofs.StandsLaws.{property_read}
use Rattle.ofn_axiom.proofs.StandsBack.{property_stands}
use Rattle.ofn_axiom.proofs.laws.properties_are_what_stands_for_them.Goals as goal

pub returns : goal.returns
returns c = record { read = λ text prefixes item iri is. (property_read text prefixes item iri is).0; stands = property_stands }
