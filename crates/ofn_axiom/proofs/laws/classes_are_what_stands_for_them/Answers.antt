use Rattle.ofn_axiom.proofs.StandsLaws.{class_read}
use Rattle.ofn_axiom.proofs.StandsBack.{class_stands}
use Rattle.ofn_axiom.proofs.laws.classes_are_what_stands_for_them.Goals as goal

pub returns : goal.returns
returns c = record { read = class_read; stands = class_stands }
