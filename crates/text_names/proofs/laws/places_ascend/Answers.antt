use Rattle.text_names.proofs.AscentLaws.{ascends}
use Rattle.text_names.proofs.laws.places_ascend.Goals as goal

pub returns : goal.returns
returns c = ascends
