use Rattle.std.proofs.Common.{◌+◌, ◌≤◌, Contains}
use Rattle.fact_table.specs.declared.types.Fact.TheVariants.{Link}
use Rattle.fact_table.specs.declared.types.FactSide.{FactSide}
use Rattle.fact_table.specs.declared.types.FactGroup.TheVariants.{Links}
use Rattle.fact_table.specs.Groups.{group_at, node_at}
use Rattle.rule_steps.specs.Growing.{facts_in, HasGrown}
use Rattle.rule_steps.specs.Inside.Steps.{AreMetFrom}
use Rattle.rule_steps.proofs.pairs.chain_on.Given as goal

abbrev pub invariant-loop-partner : goal.invariant-loop-partner
invariant-loop-partner l = record {
  grown : HasGrown l.grounds l.fn.layers l.layers;
  within : l.below ≤ l.link.place + 1;
  met : AreMetFrom (group_at FactSide.From) (facts_in l.fn.layers) (Links l.link.into l.join.second) l.below (l.link.place + 1)
      (λ fact. Contains (facts_in l.layers) (Link l.link.from l.join.into (node_at FactSide.Into fact)));
}

abbrev pub decreases-loop-partner : goal.decreases-loop-partner
decreases-loop-partner l = l.below
