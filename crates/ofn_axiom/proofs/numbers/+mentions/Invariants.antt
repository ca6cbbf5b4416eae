use Rattle.std.proofs.Common.{◌≡◌, ◌++◌, drop}
use Rattle.ofn_axiom.specs.Numbers.{all_mentions}
use Rattle.ofn_axiom.proofs.numbers.+mentions.Given as goal

abbrev pub invariant-mention_all-loop-class : goal.invariant-mention_all-loop-class
invariant-mention_all-loop-class l = l.out ++ all_mentions (drop l.class-index l.classes) ≡ l.fn.out ++ all_mentions l.classes
