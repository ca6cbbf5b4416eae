use Rattle.std.proofs.lemmas.List.Elements.{All-contains}
use Rattle.el_logic.specs.declared.types.Expr.TheVariants.{Bottom}
use Rattle.el_logic.specs.declared.types.Axiom.TheVariants.{SubClass}
use Rattle.el_logic.specs.Meaning.{Holds}
use Rattle.el_logic.proofs.laws.below_nothing_is_empty.Goals as goal

pub returns : goal.returns
returns c classes roles axioms class stands = λ i model x member. All-contains (Holds i) axioms (SubClass class Bottom) model.holds stands x member
