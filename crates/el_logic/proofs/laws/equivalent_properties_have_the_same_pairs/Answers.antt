use Rattle.el_logic.proofs.ModelLaws.{role_within}
use Rattle.el_logic.proofs.laws.equivalent_properties_have_the_same_pairs.Goals as goal

pub returns : goal.returns
returns c i operands one other holds held held_too x y =
    (role_within i operands one other holds held held_too x y, role_within i operands other one holds held_too held x y)
