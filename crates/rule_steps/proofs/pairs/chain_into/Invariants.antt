use Rattle.std.proofs.Common.{◌+◌, ℕ, Contains}
use Rattle.fact_table.specs.declared.types.Fact.TheVariants.{Link}
use Rattle.el_rules.specs.Following.{IsPlacedBelow}
use Rattle.case_tables.specs.declared.types.Join.{Join}
use Rattle.rule_steps.specs.Counted.{IsCounting}
use Rattle.rule_steps.specs.Growing.{facts_in, HasGrown}
use Rattle.rule_steps.specs.Inside.Entries.{EachBelow}
use Rattle.rule_steps.proofs.pairs.chain_into.Given as goal

abbrev pub invariant-loop-join : goal.invariant-loop-join
invariant-loop-join l = record {
  grown : HasGrown l.grounds l.fn.layers l.layers;
  each : EachBelow l.join-items l.join-index (λ (e : Join). IsCounting l.grounds e.source → (x : ℕ) → IsPlacedBelow (l.link.place + 1) (facts_in l.fn.layers) (Link x e.first l.link.from) →
      Contains (facts_in l.layers) (Link x e.into l.link.into));
}
