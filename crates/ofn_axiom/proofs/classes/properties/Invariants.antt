use Rattle.std.proofs.Common.{◌≡◌, drop, map, []}
use Rattle.ofn_axiom.specs.Given.{given, properties_onto}
use Rattle.ofn_axiom.proofs.classes.properties.Given as goal

abbrev pub invariant-loop-item : goal.invariant-loop-item
invariant-loop-item l = properties_onto l.done (map (given l.text l.prefixes) (drop l.item-index l.items)) ≡ properties_onto [] (map (given l.text l.prefixes) l.items)
