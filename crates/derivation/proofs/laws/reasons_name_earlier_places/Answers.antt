use Rattle.derivation.proofs.Good.{names_earlier}
use Rattle.derivation.proofs.laws.reasons_name_earlier_places.Goals as goal

pub returns : goal.returns
returns c case part ranks items each = names_earlier case part ranks items each
