use Rattle.std.proofs.Common.{◌≡◌, ◌≤◌, ◌<◌, ◌^◌, ◌+◌, ◌++◌, length, drop}
use Rattle.concept_store.specs.Nodes.{parts_within}
use Rattle.concept_store.specs.Inside.Numbering.{in_32_bits, numbered_axioms}
use Rattle.concept_store.proofs.axioms.number_axioms.Given as goal

abbrev pub invariant-loop-axiom : goal.invariant-loop-axiom
invariant-loop-axiom l = record {
  over : (numbered_axioms l.first_part l.axioms l.initial.nodes.keys).0 ≡ l.over.items ++ (numbered_axioms l.first (drop l.axiom-index l.axioms) l.nodes.keys).0;
  nodes : (numbered_axioms l.first_part l.axioms l.initial.nodes.keys).1 ≡ (numbered_axioms l.first (drop l.axiom-index l.axioms) l.nodes.keys).1;
  next : in_32_bits (l.first_part + parts_within l.axioms) ≡ in_32_bits (l.first + parts_within (drop l.axiom-index l.axioms));
  small : l.first < 2 ^ 32;
  room : length l.initial.nodes.keys ≤ l.most → length l.nodes.keys ≤ l.most;
}
