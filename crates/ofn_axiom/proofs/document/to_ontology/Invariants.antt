use Rattle.std.proofs.Common.{◌≡◌, length}
use Rattle.ofn_axiom.specs.Documents.{to_ontology}
use Rattle.ofn_axiom.proofs.document.to_ontology.Given as goal

abbrev pub invariant-loop-item : goal.invariant-loop-item
invariant-loop-item l = to_ontology l.text l.prefixes l.rest ≡ to_ontology l.text l.fn.prefixes l.items

abbrev pub decreases-loop-item : goal.decreases-loop-item
decreases-loop-item l = length l.rest
