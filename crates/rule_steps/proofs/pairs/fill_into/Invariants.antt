use Rattle.std.proofs.Common.{◌+◌, ℕ, Contains}
use Rattle.fact_table.specs.declared.types.Fact.TheVariants.{Sub, Link}
use Rattle.el_rules.specs.Following.{IsPlacedBelow}
use Rattle.case_tables.specs.declared.types.Restriction.{Restriction}
use Rattle.rule_steps.specs.Growing.{facts_in, HasGrown}
use Rattle.rule_steps.specs.Inside.Entries.{EachBelow}
use Rattle.rule_steps.proofs.pairs.fill_into.Given as goal

abbrev pub invariant-loop-entry : goal.invariant-loop-entry
invariant-loop-entry l = record {
  grown : HasGrown l.grounds l.fn.layers l.layers;
  each : EachBelow l.entry-items l.entry-index (λ (e : Restriction). (x : ℕ) → IsPlacedBelow (l.sub.place + 1) (facts_in l.fn.layers) (Link x e.role l.sub.low) → Contains (facts_in l.layers) (Sub x e.node));
}
