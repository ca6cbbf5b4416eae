use Rattle.conflict_logic.proofs.AccusedLaws.{accused_opens, accused_closes}
use Rattle.conflict_logic.proofs.accused_is_last_of_a_conflict.Goals as goal

pub returns : goal.returns
returns g c = λ rank.
    let incoherent = g.F.Family.incoherent c.args.family.now in
    (accused_opens incoherent rank, accused_closes incoherent rank)
