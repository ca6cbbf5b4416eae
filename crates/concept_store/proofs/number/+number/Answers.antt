use Rattle.std.proofs.Common.{◌≡◌, ◌<◌, ℕ, List, ◌∙◌, sym, ap, subst, length}
use Rattle.std.specs.Prelude.{IfOk, IfErr, OnOk}
use Rattle.el_logic.specs.declared.types.Expr.TheVariants as E
use Rattle.concept_store.specs.declared.types.Node.{Node}
use Rattle.concept_store.specs.declared.types.Node.TheVariants.{And}
use Rattle.concept_store.specs.Trees.{tree_of}
use Rattle.concept_store.specs.Faults.{IsStoreFault}
use Rattle.concept_store.specs.Inside.Numbering.{numbered, added, AreNamesShort}
use Rattle.concept_store.proofs.NumberLaws.{whole_none, whole_some, whole_done, fault_first, fault_operand, fault_both, fault_exists, exists_is, short_first, short_at}
use Rattle.concept_store.proofs.number.+number.Goals as goal

pub returns-in_default-clause-number : goal.returns-in_default-clause-number
returns-in_default-clause-number t c =
    ap (λ tree. (numbered tree c.args.nodes.now.keys).0) (sym (whole_none c.args.expr.now c.in-And.operands c.in-And.is (sym (ap length c.as_slice.ensures) ∙ c.in_default.ensures.cases)))

pub returns-in_default-clause-nodes : goal.returns-in_default-clause-nodes
returns-in_default-clause-nodes t c =
    ap (λ tree. (numbered tree c.args.nodes.now.keys).1) (sym (whole_none c.args.expr.now c.in-And.operands c.in-And.is (sym (ap length c.as_slice.ensures) ∙ c.in_default.ensures.cases)))

pub returns-in-Err-clause-fault : goal.returns-in-Err-clause-fault
returns-in-Err-clause-fault t c short =
    let parts = sym c.as_slice.ensures ∙ c.in-Some.ensures.cases.0 in
    let tree = whole_some c.args.expr.now c.in-Some.first.now c.in-And.operands c.in-Some.rest.now c.in-And.is parts in
    fault_first c.args.expr.now c.in-Some.first.now c.in-And.operands c.in-Some.rest.now c.args.nodes.now.keys c.args.most c.in-Err.fault c.in-And.is parts
    (c.in-Err.ensures.fault (short_first c.in-Some.rest.now (tree_of c.in-Some.first.now) (subst AreNamesShort tree short)))

pub returns-in-Err-number-clause-fault : goal.returns-in-Err-number-clause-fault
returns-in-Err-number-clause-fault t c short =
    let parts = sym c.as_slice.ensures ∙ c.in-Some.ensures.cases.0 in
    let tree = whole_some c.args.expr.now c.in-Some.first.now c.in-And.operands c.in-Some.rest.now c.in-And.is parts in
    fault_operand c.args.expr.now c.in-Some.first.now c.operand-item.result c.in-And.operands c.in-Some.rest.now c.args.nodes.now.keys (c.in-Ok.whole, c.number.new.nodes.keys) (c.loop-operand.whole, c.loop-operand.nodes.keys) c.loop-operand.operand-index c.args.most c.in-Err-number.fault
    c.in-And.is parts (λ i. (c.in-Ok.ensures.number i, c.in-Ok.ensures.nodes i)) c.loop-operand-test.true c.operand-item.is c.loop-operand.invariant.same
    (c.in-Err-number.ensures.fault (short_at c.in-Some.rest.now (tree_of c.in-Some.first.now) c.loop-operand.operand-index c.operand-item.result (subst AreNamesShort tree short) c.loop-operand-test.true c.operand-item.is))

pub returns-in-Err-add_node-clause-fault : goal.returns-in-Err-add_node-clause-fault
returns-in-Err-add_node-clause-fault t c short =
    let parts = sym c.as_slice.ensures ∙ c.in-Some.ensures.cases.0 in
    let other : (c.in-Ok-number.other, c.number-in-loop-operand.new.nodes.keys) ≡ numbered (tree_of c.operand-item.result) c.loop-operand.nodes.keys = λ i. (c.in-Ok-number.ensures.number i, c.in-Ok-number.ensures.nodes i) in
    fault_both c.args.expr.now c.in-Some.first.now c.operand-item.result c.in-And.operands c.in-Some.rest.now c.args.nodes.now.keys (c.in-Ok.whole, c.number.new.nodes.keys) (c.loop-operand.whole, c.loop-operand.nodes.keys) c.loop-operand.operand-index c.args.most c.in-Err-add_node.fault
    c.in-And.is parts (λ i. (c.in-Ok.ensures.number i, c.in-Ok.ensures.nodes i)) c.loop-operand-test.true c.operand-item.is c.loop-operand.invariant.same
    (subst (λ (w : ℕ × List Node). IsStoreFault (c.args.most < length (added (And c.loop-operand.whole w.0) w.1).1) ⊥ c.in-Err-add_node.fault) other c.in-Err-add_node.ensures.fault)

pub returns-after-loop-operand-clause-number : goal.returns-after-loop-operand-clause-number
returns-after-loop-operand-clause-number t c =
    ap (λ w. w.0) (whole_done c.args.expr.now c.in-Some.first.now c.in-And.operands c.in-Some.rest.now c.args.nodes.now.keys (c.in-Ok.whole, c.number.new.nodes.keys) (c.loop-operand.whole, c.loop-operand.nodes.keys) c.loop-operand.operand-index
    c.in-And.is (sym c.as_slice.ensures ∙ c.in-Some.ensures.cases.0) (λ i. (c.in-Ok.ensures.number i, c.in-Ok.ensures.nodes i)) c.loop-operand-test.false c.loop-operand.invariant.same)

pub returns-after-loop-operand-clause-nodes : goal.returns-after-loop-operand-clause-nodes
returns-after-loop-operand-clause-nodes t c =
    ap (λ w. w.1) (whole_done c.args.expr.now c.in-Some.first.now c.in-And.operands c.in-Some.rest.now c.args.nodes.now.keys (c.in-Ok.whole, c.number.new.nodes.keys) (c.loop-operand.whole, c.loop-operand.nodes.keys) c.loop-operand.operand-index
    c.in-And.is (sym c.as_slice.ensures ∙ c.in-Some.ensures.cases.0) (λ i. (c.in-Ok.ensures.number i, c.in-Ok.ensures.nodes i)) c.loop-operand-test.false c.loop-operand.invariant.same)

pub returns-in-Err-number-2-clause-fault : goal.returns-in-Err-number-2-clause-fault
returns-in-Err-number-2-clause-fault t c short =
    fault_exists c.args.expr.now c.get.result.now c.in-Exists.role c.args.nodes.now.keys c.args.most c.in-Err-number-2.fault
    (c.in-Exists.is ∙ ap (E.Exists c.in-Exists.role) (sym c.get.ensures)) short c.in-Err-number-2.ensures.fault

pub returns-in-Ok-number-2-clause-number : goal.returns-in-Ok-number-2-clause-number
returns-in-Ok-number-2-clause-number t c =
    let same = exists_is c.args.expr.now c.get.result.now c.in-Exists.role c.args.nodes.now.keys c.in-Ok-number-2.inner c.number-in-Exists.new.nodes.keys
    (c.in-Exists.is ∙ ap (E.Exists c.in-Exists.role) (sym c.get.ensures)) c.in-Ok-number-2.ensures.number c.in-Ok-number-2.ensures.nodes in
    subst (λ (w : ℕ × List Node). IfOk c.add_node-in-Exists.result (λ n. n ≡ w.0)) same c.add_node-in-Exists.ensures.number

pub returns-in-Ok-number-2-clause-nodes : goal.returns-in-Ok-number-2-clause-nodes
returns-in-Ok-number-2-clause-nodes t c =
    let same = exists_is c.args.expr.now c.get.result.now c.in-Exists.role c.args.nodes.now.keys c.in-Ok-number-2.inner c.number-in-Exists.new.nodes.keys
    (c.in-Exists.is ∙ ap (E.Exists c.in-Exists.role) (sym c.get.ensures)) c.in-Ok-number-2.ensures.number c.in-Ok-number-2.ensures.nodes in
    subst (λ (w : ℕ × List Node). OnOk c.add_node-in-Exists.result (c.add_node-in-Exists.new.nodes.keys ≡ w.1)) same c.add_node-in-Exists.ensures.nodes

pub returns-in-Ok-number-2-clause-fault : goal.returns-in-Ok-number-2-clause-fault
returns-in-Ok-number-2-clause-fault t c short =
    let same = exists_is c.args.expr.now c.get.result.now c.in-Exists.role c.args.nodes.now.keys c.in-Ok-number-2.inner c.number-in-Exists.new.nodes.keys
    (c.in-Exists.is ∙ ap (E.Exists c.in-Exists.role) (sym c.get.ensures)) c.in-Ok-number-2.ensures.number c.in-Ok-number-2.ensures.nodes in
    subst (λ (w : ℕ × List Node). IfErr c.add_node-in-Exists.result (IsStoreFault (c.args.most < length w.1) ⊥)) same c.add_node-in-Exists.ensures.fault
