use Rattle.std.proofs.Common.{◌≡◌, map, length}
use Rattle.ofn_axiom.specs.Given.{given, after_annotations}
use Rattle.ofn_axiom.proofs.items.after_annotations.Given as goal

abbrev pub invariant-loop-first : goal.invariant-loop-first
invariant-loop-first l = after_annotations (map (given l.text l.prefixes) l.rest) ≡ after_annotations (map (given l.text l.prefixes) l.items)

abbrev pub decreases-loop-first : goal.decreases-loop-first
decreases-loop-first l = length l.rest
