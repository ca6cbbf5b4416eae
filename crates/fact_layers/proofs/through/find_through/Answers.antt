use Rattle.std.proofs.Common.{arith}
use Rattle.fact_layers.proofs.Layered.{find_more, find_here, find_none}
use Rattle.fact_layers.proofs.through.find_through.Goals as goal

pub loop-layer-init : goal.loop-layer-init
loop-layer-init c p above below has = omega (arith, below)

pub returns-in-Some : goal.returns-in-Some
returns-in-Some c = find_here c.args.layers.now c.loop-layer.layer-index c.layer-item.result c.args.fact c.in-Some.place c.requires c.loop-layer-test.true (rw (← c.layer-item.is) c.in-Some.ensures)

pub loop-layer-preserved : goal.loop-layer-preserved
loop-layer-preserved c = find_more c.args.layers.now c.loop-layer.layer-index c.layer-item.result c.args.fact c.requires c.loop-layer-test.true (rw (← c.layer-item.is) c.in-None.ensures) c.loop-layer.invariant

pub returns : goal.returns
returns c = find_none c.args.layers.now c.loop-layer.layer-index c.args.fact c.loop-layer-test.false c.loop-layer.invariant
