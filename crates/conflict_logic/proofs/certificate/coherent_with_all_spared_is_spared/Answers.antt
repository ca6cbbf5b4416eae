use Rattle.conflict_logic.proofs.CertificateLaws.{spared_by_all}
use Rattle.conflict_logic.proofs.certificate.coherent_with_all_spared_is_spared.Goals as goal

pub returns : goal.returns
returns g c rank ranks closed all coherent = spared_by_all (g.F.Family.incoherent c.args.family.now) closed rank ranks all coherent
