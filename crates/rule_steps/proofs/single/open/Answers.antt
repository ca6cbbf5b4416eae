use Rattle.std.proofs.Common.{subst, sym}
use Rattle.concept_store.specs.Nodes.{IsNode}
use Rattle.fact_layers.specs.Tops.{whole}
use Rattle.rule_steps.specs.Counted.{nodes_of}
use Rattle.rule_steps.specs.Inside.Steps.{IsDerivedFrom}
use Rattle.rule_steps.proofs.OpenLaws.{out_follows}
use Rattle.rule_steps.proofs.single.open.Goals as goal

pub add-requires : goal.add-requires
add-requires c =
    subst (IsDerivedFrom c.args.grounds.now (whole c.args.layers.now)) (sym c.opened.ensures)
    (out_follows c.args.grounds.now c.args.layers.now c.args.sub.place c.args.sub.low c.args.sub.high c.in-Exists.role c.in-Exists.filler
    (subst (IsNode (nodes_of c.args.grounds.now) c.args.sub.high) c.in-Exists.is (sym c.in-Some.ensures)) c.requires)
