use Rattle.el_logic.proofs.Steps.{sub_class, not_super_class, equivalent, not_equivalent, not_equivalent_exchanged, not_equivalent_three, disjoint, not_disjoint, not_disjoint_three}
use Rattle.el_logic.proofs.laws.class_axioms_have_their_direction.Goals as goal

pub returns : goal.returns
returns c = (sub_class, not_super_class, equivalent, not_equivalent, not_equivalent_exchanged, not_equivalent_three, disjoint, not_disjoint, not_disjoint_three)
