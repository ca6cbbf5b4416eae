use Rattle.std.proofs.Common.{◌∙◌, sym, ap, length, Some, None}
use Rattle.el_logic.specs.declared.types.Expr.TheVariants as E
use Rattle.concept_store.proofs.NodeForLaws.{none_first, none_later, found_all, found_next, both_with, both_without, found_none, found_exists}
use Rattle.concept_store.proofs.store.Store.+node_of.Goals as goal

pub returns-in_default : goal.returns-in_default
returns-in_default t c =
    c.find-in_default.ensures ∙ found_none c.args.self.now.nodes c.args.expr.now c.in-And.operands c.in-And.is (sym (ap length c.as_slice.ensures) ∙ c.in_default.ensures.cases)

pub returns-in-None : goal.returns-in-None
returns-in-None t c =
    none_first c.args.self.now.nodes c.args.expr.now c.in-Some.first.now c.in-And.operands c.in-Some.rest.now c.in-And.is (sym c.as_slice.ensures ∙ c.in-Some.ensures.cases.0) c.in-None.ensures

pub returns-in-None-node_of : goal.returns-in-None-node_of
returns-in-None-node_of t c =
    none_later c.args.self.now.nodes c.args.expr.now c.in-Some.first.now c.in-And.operands c.in-Some.rest.now c.in-And.is (sym c.as_slice.ensures ∙ c.in-Some.ensures.cases.0)
    c.in-Some-node_of.whole c.loop-operand.whole c.loop-operand.operand-index c.in-Some-node_of.ensures c.loop-operand.invariant c.operand-item.result c.loop-operand-test.true c.operand-item.is
    (both_without c.args.self.now.nodes c.loop-operand.whole c.operand-item.result c.in-None-node_of.ensures)

pub returns-in-None-find : goal.returns-in-None-find
returns-in-None-find t c =
    none_later c.args.self.now.nodes c.args.expr.now c.in-Some.first.now c.in-And.operands c.in-Some.rest.now c.in-And.is (sym c.as_slice.ensures ∙ c.in-Some.ensures.cases.0)
    c.in-Some-node_of.whole c.loop-operand.whole c.loop-operand.operand-index c.in-Some-node_of.ensures c.loop-operand.invariant c.operand-item.result c.loop-operand-test.true c.operand-item.is
    (c.in-None-find.ensures ∙ both_with c.args.self.now.nodes c.loop-operand.whole c.in-Some-node_of-2.other c.operand-item.result c.in-Some-node_of-2.ensures)

pub loop-operand-preserved : goal.loop-operand-preserved
loop-operand-preserved t c =
    found_next c.args.self.now.nodes c.in-Some.rest.now c.in-Some-node_of.whole c.loop-operand.whole c.in-Some-find.whole c.loop-operand.operand-index c.operand-item.result c.loop-operand-test.true c.operand-item.is c.loop-operand.invariant
    (c.in-Some-find.ensures ∙ both_with c.args.self.now.nodes c.loop-operand.whole c.in-Some-node_of-2.other c.operand-item.result c.in-Some-node_of-2.ensures)

pub returns-after-loop-operand : goal.returns-after-loop-operand
returns-after-loop-operand t c =
    found_all c.args.self.now.nodes c.args.expr.now c.in-Some.first.now c.in-And.operands c.in-Some.rest.now c.in-And.is (sym c.as_slice.ensures ∙ c.in-Some.ensures.cases.0)
    c.in-Some-node_of.whole c.loop-operand.whole c.loop-operand.operand-index c.in-Some-node_of.ensures c.loop-operand.invariant c.loop-operand-test.false

pub returns-in-Some-node_of-3 : goal.returns-in-Some-node_of-3
returns-in-Some-node_of-3 t c =
    c.find-in-Some-node_of-3.ensures ∙ found_exists c.args.self.now.nodes c.args.expr.now c.get.result.now c.in-Exists.role (Some c.in-Some-node_of-3.inner) (c.in-Exists.is ∙ ap (E.Exists c.in-Exists.role) (sym c.get.ensures)) c.in-Some-node_of-3.ensures

pub returns-in-None-node_of-2 : goal.returns-in-None-node_of-2
returns-in-None-node_of-2 t c =
    found_exists c.args.self.now.nodes c.args.expr.now c.get.result.now c.in-Exists.role None (c.in-Exists.is ∙ ap (E.Exists c.in-Exists.role) (sym c.get.ensures)) c.in-None-node_of-2.ensures
