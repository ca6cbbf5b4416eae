use Rattle.std.proofs.Common.{◌≡◌, drop, map, []}
use Rattle.ofn_axiom.specs.Given.{given, classes_onto}
use Rattle.ofn_axiom.proofs.classes.+classes.Given as goal

abbrev pub invariant-classes-loop-item : goal.invariant-classes-loop-item
invariant-classes-loop-item l = classes_onto l.done (map (given l.text l.prefixes) (drop l.item-index l.items)) ≡ classes_onto [] (map (given l.text l.prefixes) l.items)
