use Rattle.std.proofs.Common.{Contains}
use Rattle.fact_table.specs.declared.types.Fact.TheVariants.{Sub}
use Rattle.case_tables.specs.declared.types.Whole.{Whole}
use Rattle.rule_steps.specs.Growing.{facts_in, HasGrown}
use Rattle.rule_steps.specs.Inside.Entries.{EachBelow}
use Rattle.rule_steps.proofs.pairs.meet.Given as goal

abbrev pub invariant-loop-whole : goal.invariant-loop-whole
invariant-loop-whole l = record {
  grown : HasGrown l.grounds l.fn.layers l.layers;
  each : EachBelow l.whole-items l.whole-index (λ (e : Whole). Contains (facts_in l.fn.layers) (Sub l.sub.low e.other) → Contains (facts_in l.layers) (Sub l.sub.low e.node));
}
