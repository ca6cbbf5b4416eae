use Rattle.conflict_logic.proofs.CertificateLaws.{refuted_is_accused_by_test}
use Rattle.conflict_logic.proofs.certificate.refuted_by_spared_is_accused.Goals as goal

pub returns : goal.returns
returns c test rank closed none refuted = refuted_is_accused_by_test test closed none rank refuted
