use Rattle.std.proofs.Common.{arith}
use Rattle.el_logic.proofs.laws.thing_is_never_empty.Goals as goal

pub returns : goal.returns
returns c classes roles axioms i model = λ empty. empty i model 0 (omega (arith, model.fits.inhabited))
