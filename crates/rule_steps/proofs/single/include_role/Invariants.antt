use Rattle.fact_table.specs.declared.types.Fact.TheVariants.{Link}
use Rattle.case_tables.specs.declared.types.RoleInclusion.{RoleInclusion}
use Rattle.rule_steps.specs.Growing.{facts_in, HasGrown}
use Rattle.rule_steps.specs.Inside.Entries.{EachBelow}
use Rattle.rule_steps.proofs.SingleLaws.{GivesCounted}
use Rattle.rule_steps.proofs.single.include_role.Given as goal

abbrev pub invariant-loop-entry : goal.invariant-loop-entry
invariant-loop-entry l = record {
  grown : HasGrown l.grounds l.fn.layers l.layers;
  each : EachBelow l.entry-items l.entry-index (GivesCounted l.grounds l.first (λ (e : RoleInclusion). e.source) (λ (e : RoleInclusion). Link l.link.from e.into l.link.into) (facts_in l.layers));
}
