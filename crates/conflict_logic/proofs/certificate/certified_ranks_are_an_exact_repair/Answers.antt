use Rattle.conflict_logic.proofs.CertificateLaws.{certified_exact}
use Rattle.conflict_logic.proofs.certificate.certified_ranks_are_an_exact_repair.Goals as goal

pub returns : goal.returns
returns c test count kept closed certified = certified_exact test closed count kept certified
