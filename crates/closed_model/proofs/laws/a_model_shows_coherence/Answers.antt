use Rattle.closed_model.proofs.ModelLaws.{is_coherent}
use Rattle.closed_model.proofs.laws.a_model_shows_coherence.Goals as goal

pub returns : goal.returns
returns c = is_coherent
