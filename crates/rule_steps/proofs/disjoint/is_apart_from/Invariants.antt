use Rattle.case_tables.specs.declared.types.Operand.{Operand}
use Rattle.rule_steps.specs.Inside.Entries.{EachBelow}
use Rattle.rule_steps.specs.Inside.Steps.{IsApart}
use Rattle.rule_steps.proofs.disjoint.is_apart_from.Given as goal

abbrev pub invariant-loop-other : goal.invariant-loop-other
invariant-loop-other l = EachBelow l.others l.other-index (λ (e : Operand). IsApart l.one e → ⊥)
