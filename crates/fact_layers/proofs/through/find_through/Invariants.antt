use Rattle.std.proofs.Common.{length, take}
use Rattle.fact_table.specs.declared.types.Fact.{Fact}
use Rattle.fact_table.specs.Lists.{facts_of}
use Rattle.fact_table.specs.Places.{IsClear}
use Rattle.fact_layers.specs.Inside.Stacks.{all_items}
use Rattle.fact_layers.proofs.through.find_through.Given as goal

abbrev pub invariant-loop-layer : goal.invariant-loop-layer
invariant-loop-layer l = IsClear (λ (f : Fact). f) (facts_of (all_items l.layers)) l.fact 0 (length (all_items (take l.layer-index l.layers)))
