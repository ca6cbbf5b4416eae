use Rattle.std.proofs.Common.{◌++◌}
use Rattle.std.proofs.lemmas.List.Elements.{Contains-append_left, Contains-append_right}
use Rattle.el_logic.proofs.ModelLaws.{with_more}
use Rattle.el_logic.proofs.laws.more_axioms_keep_a_class_empty.Goals as goal

pub returns : goal.returns
returns c classes roles before axioms after class empty = λ i model. empty i (with_more classes roles axioms (before ++ axioms ++ after)
    (λ one held. Contains-append_left (before ++ axioms) after one (Contains-append_right before axioms one held)) i model)
