use Rattle.conflict_logic.proofs.CertificateLaws.{refuted_is_not_spared}
use Rattle.conflict_logic.proofs.certificate.refuted_by_spared_is_not_spared.Goals as goal

pub returns : goal.returns
returns g c rank closed none refuted = refuted_is_not_spared (g.F.Family.incoherent c.args.family.now) closed none rank refuted
