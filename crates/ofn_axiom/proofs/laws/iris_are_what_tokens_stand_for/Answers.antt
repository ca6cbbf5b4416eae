use Rattle.ofn_axiom.proofs.StandsLaws.{iri_name, name_iri}
use Rattle.ofn_axiom.proofs.laws.iris_are_what_tokens_stand_for.Goals as goal

pub returns : goal.returns
returns c = record { read = iri_name; stands = name_iri }
