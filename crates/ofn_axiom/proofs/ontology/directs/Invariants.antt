use Rattle.std.proofs.Common.{◌≡◌, drop, map}
use Rattle.ofn_axiom.specs.Given.{given, directs}
use Rattle.ofn_axiom.specs.Inside.Marks.{IsMark}
use Rattle.ofn_axiom.specs.Taking.{IsNamesBefore}
use Rattle.ofn_axiom.proofs.ontology.directs.Given as goal

abbrev pub invariant-loop-item : goal.invariant-loop-item
invariant-loop-item l = record {
  same : directs l.text l.mode (map (given l.text l.prefixes) (drop l.item-index l.items)) (l.document, l.names) ≡ directs l.text l.mode (map (given l.text l.prefixes) l.items) (l.fn.document, l.fn.names);
  mark : IsMark l.text l.mark;
  grows : IsNamesBefore l.fn.names l.names;
}
