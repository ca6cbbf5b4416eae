use Rattle.concept_store.proofs.AxiomLaws.{fault_each}
use Rattle.concept_store.proofs.axioms.number_each.Goals as goal

pub returns-in-Err-clause-fault : goal.returns-in-Err-clause-fault
returns-in-Err-clause-fault c short =
    fault_each c.args.exprs.now c.loop-expr.expr-index c.expr-item.result c.args.nodes.now.keys c.loop-expr.nodes.keys c.args.most c.in-Err.fault
    c.loop-expr-test.true c.expr-item.is c.loop-expr.invariant.nodes short c.in-Err.ensures.fault
