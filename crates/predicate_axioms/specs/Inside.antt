-- What only the code of this crate and its proofs cite.
use Rattle.el_logic.specs.declared.types.Expr.{Expr}
use Rattle.el_logic.specs.declared.types.Expr.TheVariants.{Top, Bottom, Name}
use Rattle.predicate_axioms.specs.declared.names.ClassName.{ClassName}
use Rattle.predicate_axioms.specs.declared.names.ClassName.TheVariants as named

-- a class name as an expression
abbrev pub expr_of : ClassName → Expr
expr_of named.Thing = Top
expr_of named.Nothing = Bottom
expr_of (named.Class number) = Name number
