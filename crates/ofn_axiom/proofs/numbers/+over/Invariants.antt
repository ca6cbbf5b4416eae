use Rattle.std.proofs.Common.{◌≡◌, ◌++◌, drop, map}
use Rattle.ofn_axiom.specs.Numbers.{expr_over}
use Rattle.ofn_axiom.proofs.numbers.+over.Given as goal

abbrev pub invariant-exprs_over-loop-class : goal.invariant-exprs_over-loop-class
invariant-exprs_over-loop-class l = l.done ++ map (expr_over l.names) (drop l.class-index l.classes) ≡ map (expr_over l.names) l.classes
