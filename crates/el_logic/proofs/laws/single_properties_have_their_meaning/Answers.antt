use Rattle.el_logic.proofs.Steps.{transitive, reflexive, not_reflexive, domain, not_domain}
use Rattle.el_logic.proofs.laws.single_properties_have_their_meaning.Goals as goal

pub returns : goal.returns
returns c = (transitive, reflexive, not_reflexive, domain, not_domain)
