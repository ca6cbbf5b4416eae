use Rattle.derivation.specs.Steps.{AreGoodBelow}
use Rattle.derivation.proofs.checking.check_derivation.Given as goal

abbrev pub invariant-loop-count : goal.invariant-loop-count
invariant-loop-count l = AreGoodBelow l.case l.part l.ranks l.steps l.count
