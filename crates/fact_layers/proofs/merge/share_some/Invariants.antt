use Rattle.std.proofs.Common.{◌≡◌, take}
use Rattle.fact_layers.proofs.merge.share_some.Given as goal

abbrev pub invariant-loop-layer : goal.invariant-loop-layer
invariant-loop-layer l = l.shared.items ≡ take l.layer-index l.layer-items
