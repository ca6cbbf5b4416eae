use Rattle.std.proofs.Common.{◌≡◌, drop, map}
use Rattle.ofn_axiom.specs.Given.{given, all_fit}
use Rattle.ofn_axiom.proofs.items.all_fit.Given as goal

abbrev pub invariant-loop-item : goal.invariant-loop-item
invariant-loop-item l = all_fit (map (given l.text l.prefixes) (drop l.item-index l.items)) ≡ all_fit (map (given l.text l.prefixes) l.items)
