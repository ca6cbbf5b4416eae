use Rattle.std.proofs.Common.{◌≡◌, ◌++◌, drop, map}
use Rattle.ofn_axiom.specs.Numbers.{number_in}
use Rattle.ofn_axiom.proofs.numbers.numbers_in.Given as goal

abbrev pub invariant-loop-name : goal.invariant-loop-name
invariant-loop-name l = l.done ++ map (number_in l.table) (drop l.name-index l.names) ≡ map (number_in l.table) l.names
