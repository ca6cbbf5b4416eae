use Rattle.std.specs.Prelude.{ℕ, None}
use Rattle.fact_table.specs.declared.types.Fact.TheVariants.{Link}
use Rattle.case_tables.specs.declared.types.Reflexive.{Reflexive}
use Rattle.rule_steps.specs.Growing.{facts_in, HasGrown}
use Rattle.rule_steps.specs.Inside.Entries.{EachBelow}
use Rattle.rule_steps.proofs.SingleLaws.{GivesCounted}
use Rattle.rule_steps.proofs.steps.link_to_itself.Given as goal

abbrev pub invariant-loop-entry : goal.invariant-loop-entry
invariant-loop-entry l = record {
  grown : HasGrown l.grounds l.fn.layers l.layers;
  each : EachBelow l.entry-items l.entry-index (GivesCounted l.grounds None (λ (e : ℕ × Reflexive). e.1.source) (λ (e : ℕ × Reflexive). Link l.node e.0 l.node) (facts_in l.layers));
}
