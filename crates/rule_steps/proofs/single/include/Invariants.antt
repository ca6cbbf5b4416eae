use Rattle.fact_table.specs.declared.types.Fact.TheVariants.{Sub}
use Rattle.case_tables.specs.declared.types.Inclusion.{Inclusion}
use Rattle.rule_steps.specs.Growing.{facts_in, HasGrown}
use Rattle.rule_steps.specs.Inside.Entries.{EachBelow}
use Rattle.rule_steps.proofs.SingleLaws.{GivesCounted}
use Rattle.rule_steps.proofs.single.include.Given as goal

abbrev pub invariant-loop-entry : goal.invariant-loop-entry
invariant-loop-entry l = record {
  grown : HasGrown l.grounds l.fn.layers l.layers;
  each : EachBelow l.entry-items l.entry-index (GivesCounted l.grounds l.first (λ (e : Inclusion). e.source) (λ (e : Inclusion). Sub l.sub.low e.into) (facts_in l.layers));
}
