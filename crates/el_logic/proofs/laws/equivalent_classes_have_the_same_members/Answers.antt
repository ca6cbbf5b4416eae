use Rattle.el_logic.proofs.ModelLaws.{class_within}
use Rattle.el_logic.proofs.laws.equivalent_classes_have_the_same_members.Goals as goal

pub returns : goal.returns
returns c i operands one other holds held held_too x =
    (class_within i operands one other holds held held_too x, class_within i operands other one holds held_too held x)
