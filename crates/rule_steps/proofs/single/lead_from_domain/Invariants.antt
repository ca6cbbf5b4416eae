use Rattle.std.specs.Prelude.{None}
use Rattle.fact_table.specs.declared.types.Fact.TheVariants.{Sub}
use Rattle.case_tables.specs.declared.types.RoleDomain.{RoleDomain}
use Rattle.rule_steps.specs.Growing.{facts_in, HasGrown}
use Rattle.rule_steps.specs.Inside.Entries.{EachBelow}
use Rattle.rule_steps.proofs.SingleLaws.{GivesCounted}
use Rattle.rule_steps.proofs.single.lead_from_domain.Given as goal

abbrev pub invariant-loop-entry : goal.invariant-loop-entry
invariant-loop-entry l = record {
  grown : HasGrown l.grounds l.fn.layers l.layers;
  each : EachBelow l.entry-items l.entry-index (GivesCounted l.grounds None (λ (e : RoleDomain). e.source) (λ (e : RoleDomain). Sub l.link.from e.domain) (facts_in l.layers));
}
