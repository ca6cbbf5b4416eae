use Rattle.std.proofs.Common.{◌≡◌, ◌++◌, drop}
use Rattle.ofn_axiom.specs.Numbers.{properties}
use Rattle.ofn_axiom.proofs.numbers.mention_properties.Given as goal

abbrev pub invariant-loop-iri : goal.invariant-loop-iri
invariant-loop-iri l = l.out ++ properties (drop l.iri-index l.iris) ≡ l.fn.out ++ properties l.iris
