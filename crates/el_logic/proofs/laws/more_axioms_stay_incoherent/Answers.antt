use Rattle.el_logic.proofs.ModelLaws.{with_more}
use Rattle.el_logic.proofs.laws.more_axioms_stay_incoherent.Goals as goal

pub returns : goal.returns
returns c classes roles axioms more within (class, held, empty) = (class, held, λ i model. empty i (with_more classes roles axioms more within i model))
