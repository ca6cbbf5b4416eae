use Rattle.accuse_core.proofs.MarkLaws.{kept_laws}
use Rattle.accuse_core.proofs.laws.kept_ranks_have_the_mark.Goals as goal

pub returns : goal.returns
returns c = kept_laws
