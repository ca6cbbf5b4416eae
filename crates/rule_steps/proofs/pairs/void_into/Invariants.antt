use Rattle.std.proofs.Common.{◌+◌, ◌<◌, ℕ, Contains}
use Rattle.fact_table.specs.declared.types.Fact.TheVariants.{Sub, Link}
use Rattle.el_rules.specs.Following.{IsPlacedBelow}
use Rattle.rule_steps.specs.Growing.{facts_in, HasGrown}
use Rattle.rule_steps.proofs.pairs.void_into.Given as goal

abbrev pub invariant-loop-role : goal.invariant-loop-role
invariant-loop-role l = record {
  grown : HasGrown l.grounds l.fn.layers l.layers;
  each : (role : ℕ) → role < l.role → (x : ℕ) → IsPlacedBelow (l.sub.place + 1) (facts_in l.fn.layers) (Link x role l.sub.low) → Contains (facts_in l.layers) (Sub x 1);
}
