use Rattle.std.proofs.Common.{◌+◌, ◌≤◌, Contains}
use Rattle.fact_table.specs.declared.types.Fact.TheVariants.{Sub}
use Rattle.fact_table.specs.declared.types.FactSide.{FactSide}
use Rattle.fact_table.specs.declared.types.FactGroup.TheVariants.{Subs}
use Rattle.fact_table.specs.declared.types.Source.{Source}
use Rattle.fact_table.specs.Groups.{group_at, node_at}
use Rattle.rule_steps.specs.Growing.{facts_in, HasGrown}
use Rattle.rule_steps.specs.Inside.Steps.{AreMetFrom, SeparatesBy}
use Rattle.rule_steps.proofs.disjoint.separate.Given as goal

abbrev pub invariant-loop-partner : goal.invariant-loop-partner
invariant-loop-partner l = record {
  grown : HasGrown l.grounds l.fn.layers l.layers;
  within : l.below ≤ l.sub.place + 1;
  met : AreMetFrom (group_at FactSide.From) (facts_in l.fn.layers) (Subs l.sub.low) l.below (l.sub.place + 1)
      (λ fact. (source : Source) → SeparatesBy l.grounds source l.sub.high (node_at FactSide.Into fact) → Contains (facts_in l.layers) (Sub l.sub.low 1));
}

abbrev pub decreases-loop-partner : goal.decreases-loop-partner
decreases-loop-partner l = l.below
