use Rattle.conflict_logic.proofs.RepairLaws.{one_repair}
use Rattle.conflict_logic.proofs.repair.repair_is_unique.Goals as goal

pub returns : goal.returns
returns g c = one_repair (g.F.Family.incoherent c.args.family.now)
