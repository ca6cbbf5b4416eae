use Rattle.std.proofs.Common.{◌≡◌, Contains}
use Rattle.fact_table.specs.declared.types.Fact.TheVariants.{Sub}
use Rattle.case_tables.specs.declared.types.Restriction.{Restriction}
use Rattle.rule_steps.specs.Growing.{facts_in, HasGrown}
use Rattle.rule_steps.specs.Inside.Entries.{EachBelow}
use Rattle.rule_steps.proofs.pairs.fill.Given as goal

abbrev pub invariant-loop-entry : goal.invariant-loop-entry
invariant-loop-entry l = record {
  grown : HasGrown l.grounds l.fn.layers l.layers;
  each : EachBelow l.entry-items l.entry-index (λ (e : Restriction). e.role ≡ l.link.role → Contains (facts_in l.layers) (Sub l.link.from e.node));
}
