use Rattle.std.proofs.Common.{◌≡◌, All, take}
use Rattle.el_logic.specs.Meaning.{Holds}
use Rattle.model_check.proofs.check.first_failing.Given as goal

abbrev pub invariant-loop-axiom : goal.invariant-loop-axiom
invariant-loop-axiom l = record {
  number : l.number ≡ l.axiom-index;
  hold : All (Holds l.lists.ordered) (take l.axiom-index l.axioms);
}
