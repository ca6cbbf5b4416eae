use Rattle.std.proofs.Common.{Contains}
use Rattle.case_tables.specs.declared.types.Operand.{Operand}
use Rattle.rule_steps.specs.Counted.{IsCounting}
use Rattle.rule_steps.specs.Inside.Entries.{EachBelow}
use Rattle.rule_steps.specs.Inside.Steps.{IsApart}
use Rattle.rule_steps.proofs.disjoint.separator.Given as goal

abbrev pub invariant-loop-operand : goal.invariant-loop-operand
invariant-loop-operand l =
    EachBelow l.operand-items l.operand-index (λ (e : Operand). (other : Operand) → Contains l.others other → IsApart e other → IsCounting l.grounds e.source → ⊥)
