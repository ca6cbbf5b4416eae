use Rattle.concept_store.proofs.RoleLaws.{fault_names}
use Rattle.concept_store.proofs.roles.list_roles.Goals as goal

pub returns-in-Err-clause-fault : goal.returns-in-Err-clause-fault
returns-in-Err-clause-fault c = fault_names c.args.names c.args.left.now c.args.right.now c.args.most c.in-Err.fault c.in-Err.ensures.fault
