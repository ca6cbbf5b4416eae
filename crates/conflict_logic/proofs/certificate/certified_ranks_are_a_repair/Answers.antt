use Rattle.conflict_logic.proofs.CertificateLaws.{certified_repair}
use Rattle.conflict_logic.proofs.certificate.certified_ranks_are_a_repair.Goals as goal

pub returns : goal.returns
returns g c count kept closed certified = certified_repair (g.F.Family.incoherent c.args.family.now) closed count kept certified
