use Rattle.std.proofs.Common.{◌+◌, ◌≤◌, Contains}
use Rattle.fact_table.specs.declared.types.FactSide.{FactSide}
use Rattle.fact_table.specs.declared.types.FactGroup.TheVariants.{Links}
use Rattle.fact_table.specs.Groups.{group_at, node_at}
use Rattle.rule_steps.specs.Growing.{facts_in, HasGrown}
use Rattle.rule_steps.specs.Inside.Steps.{AreMetFrom, joined_fact}
use Rattle.rule_steps.proofs.walks.join_into.Given as goal

abbrev pub invariant-loop-partner : goal.invariant-loop-partner
invariant-loop-partner l = record {
  grown : HasGrown l.grounds l.fn.layers l.layers;
  within : l.below ≤ l.place + 1;
  met : AreMetFrom (group_at FactSide.Into) (facts_in l.fn.layers) (Links l.into l.role) l.below (l.place + 1)
      (λ fact. Contains (facts_in l.layers) (joined_fact l.joined (node_at FactSide.From fact)));
}

abbrev pub decreases-loop-partner : goal.decreases-loop-partner
decreases-loop-partner l = l.below
