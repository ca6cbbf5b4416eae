use Rattle.concept_store.proofs.AxiomLaws.{fault_low}
use Rattle.concept_store.proofs.axioms.number_axiom.Goals as goal

pub returns-in-Err-clause-fault : goal.returns-in-Err-clause-fault
returns-in-Err-clause-fault c short =
    fault_low c.args.axiom.now c.in-SubClass.low c.in-SubClass.high c.args.first_part c.args.nodes.now.keys c.args.most c.in-Err.fault c.in-SubClass.is short c.in-Err.ensures.fault
