use Rattle.concept_store.proofs.AxiomLaws.{fault_axioms, next_is}
use Rattle.concept_store.proofs.axioms.number_axioms.Goals as goal

pub returns-in-Err-clause-fault : goal.returns-in-Err-clause-fault
returns-in-Err-clause-fault c short =
    fault_axioms c.args.axioms.now c.loop-axiom.axiom-index c.axiom-item.result c.args.first_part c.loop-axiom.first c.args.nodes.now.keys c.loop-axiom.nodes.keys c.args.most c.in-Err.fault
    c.loop-axiom-test.true c.axiom-item.is c.loop-axiom.invariant.nodes short c.in-Err.ensures.fault

pub returns-clause-next : goal.returns-clause-next
returns-clause-next c = next_is c.args.axioms.now c.loop-axiom.axiom-index c.args.first_part c.loop-axiom.first c.loop-axiom-test.false c.loop-axiom.invariant.small c.loop-axiom.invariant.next
