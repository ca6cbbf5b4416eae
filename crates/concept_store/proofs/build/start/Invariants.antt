use Rattle.std.proofs.Common.{◌≡◌, ◌∷◌, map}
use Rattle.std.specs.List.{range_with_len}
use Rattle.concept_store.specs.declared.types.Node.TheVariants.{Top, Bottom, Class}
use Rattle.concept_store.proofs.build.start.Given as goal

abbrev pub invariant-loop-class : goal.invariant-loop-class
invariant-loop-class l = l.nodes.keys ≡ Top ∷ Bottom ∷ map Class (range_with_len 0 l.class)
