use Rattle.std.proofs.Common.{◌≡◌, List, subst}
use Rattle.std.specs.Prelude.{IfOk}
use Rattle.el_logic.specs.declared.types.Axiom.{Axiom}
use Rattle.predicate_axioms.proofs.Directions.{row_axioms_are}
use Rattle.predicate_axioms.proofs.axioms.axioms_of_row.Goals as goal

pub returns : goal.returns
returns c =
    let between = rw (c.bytes.ensures.value, c.bytes-2.ensures.value, c.bytes-3.ensures.value) at c.axioms_between.ensures in
    let are = row_axioms_are c.args.classes.now.names c.args.roles.now.names c.args.row.now _ _ _ c.if-row.false c.in-Some.is c.in-Some-subject.is c.in-Some-object.is in
    subst (λ (x : List Axiom). IfOk c.axioms_between.result (λ axioms. axioms ≡ x)) are between
