use Rattle.el_logic.proofs.Steps.{sub_role, not_super_role, chain, not_chain, chain_exchanged, equivalent_roles, not_equivalent_roles, not_equivalent_roles_exchanged}
use Rattle.el_logic.proofs.laws.chains_have_their_direction.Goals as goal

pub returns : goal.returns
returns c = (sub_role, not_super_role, chain, not_chain, chain_exchanged, equivalent_roles, not_equivalent_roles, not_equivalent_roles_exchanged)
