use Rattle.accuse_core.proofs.StayLaws.{decided_stays}
use Rattle.accuse_core.proofs.laws.decided_ranks_keep_their_marks.Goals as goal

pub returns : goal.returns
returns c = decided_stays
