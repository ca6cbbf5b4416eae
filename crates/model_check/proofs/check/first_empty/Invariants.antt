use Rattle.std.proofs.Common.{ℕ, ◌+◌, ◌<◌, Contains}
use Rattle.el_logic.specs.Meaning.{members_of}
use Rattle.model_check.proofs.check.first_empty.Given as goal

abbrev pub invariant-loop-class : goal.invariant-loop-class
invariant-loop-class l = (k : ℕ) → k < l.class → ¬ (Contains l.case.excused (k + 2)) → (x : ℕ) × Contains (members_of l.i k) x
