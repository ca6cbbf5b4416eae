use Rattle.std.proofs.Common.{◌∙◌, subst, arith}
use Rattle.std.proofs.lemmas.Grind.{common_steps}
use Rattle.conflict_logic.specs.Worked.{IsChained}
use Rattle.conflict_logic.proofs.tests.ChainCoherenceTest.accept.Goals as goal

pub returns-then-is_chained-clause-refused : goal.returns-then-is_chained-clause-refused
returns-then-is_chained-clause-refused c = (
  subst IsChained (c.as_slice.ensures.value ∙ c.in_ok-push.ensures.items) (c.is_chained.ensures.0 c.if-is_chained.true),
  grind (arith, common_steps),
)
