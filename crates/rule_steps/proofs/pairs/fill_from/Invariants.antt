use Rattle.std.proofs.Common.{◌+◌, ◌≤◌, ℕ, Contains}
use Rattle.concept_store.specs.Nodes.{IsNode}
use Rattle.concept_store.specs.declared.types.Node.TheVariants.{Exists}
use Rattle.fact_table.specs.declared.types.Fact.TheVariants.{Sub}
use Rattle.fact_table.specs.declared.types.FactSide.{FactSide}
use Rattle.fact_table.specs.declared.types.FactGroup.TheVariants.{Subs}
use Rattle.fact_table.specs.Groups.{group_at, node_at}
use Rattle.rule_steps.specs.Counted.{nodes_of}
use Rattle.rule_steps.specs.Growing.{facts_in, HasGrown}
use Rattle.rule_steps.specs.Inside.Steps.{AreMetFrom}
use Rattle.rule_steps.proofs.pairs.fill_from.Given as goal

abbrev pub invariant-loop-partner : goal.invariant-loop-partner
invariant-loop-partner l = record {
  grown : HasGrown l.grounds l.fn.layers l.layers;
  within : l.below ≤ l.link.place + 1;
  met : AreMetFrom (group_at FactSide.From) (facts_in l.fn.layers) (Subs l.link.into) l.below (l.link.place + 1)
      (λ fact. (node : ℕ) → IsNode (nodes_of l.grounds) node (Exists l.link.role (node_at FactSide.Into fact)) → Contains (facts_in l.layers) (Sub l.link.from node));
}

abbrev pub decreases-loop-partner : goal.decreases-loop-partner
decreases-loop-partner l = l.below
