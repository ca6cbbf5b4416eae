use Rattle.std.proofs.Common.{subst, sym, Contains}
use Rattle.std.proofs.lemmas.Result.{on_ok_weaker}
use Rattle.fact_table.specs.declared.types.Fact.TheVariants.{Sub}
use Rattle.fact_table.specs.declared.types.Proved.{Proved}
use Rattle.fact_layers.specs.Tops.{whole}
use Rattle.rule_steps.specs.Counted.{nodes_of}
use Rattle.rule_steps.specs.Growing.{facts_in}
use Rattle.rule_steps.specs.Inside.Steps.{IsDerivedFrom}
use Rattle.rule_steps.proofs.GrowthLaws.{at_grown, has_stays}
use Rattle.rule_steps.proofs.OpenLaws.{left_follows, right_follows, opened_both}
use Rattle.rule_steps.proofs.single.open_both.Goals as goal

pub add-requires : goal.add-requires
add-requires c =
    subst (IsDerivedFrom c.args.grounds.now (whole c.args.layers.now)) (sym c.opened.ensures)
    (left_follows c.args.grounds.now c.args.layers.now c.args.sub.place c.args.sub.low c.args.sub.high c.args.left c.args.right c.requires.node c.requires.at)

pub add-requires-2 : goal.add-requires-2
add-requires-2 c =
    subst (IsDerivedFrom c.args.grounds.now (whole c.add.new.layers)) (sym c.opened-2.ensures)
    (right_follows c.args.grounds.now c.add.new.layers c.args.sub.place c.args.sub.low c.args.sub.high c.args.left c.args.right c.requires.node
    (at_grown c.args.grounds.now c.args.layers.now c.add.new.layers c.args.sub.place (Sub c.args.sub.low c.args.sub.high) c.add.ensures.grown c.requires.at))

pub returns-clause-opened : goal.returns-clause-opened
returns-clause-opened c =
    on_ok_weaker c.add-2.result
    (λ there. opened_both (nodes_of c.args.grounds.now) (facts_in c.add-2.new.layers) c.args.sub.low c.args.sub.high c.args.left c.args.right c.requires.node
    (has_stays c.args.grounds.now c.add.new.layers c.add-2.new.layers (Sub c.args.sub.low c.args.left) c.add-2.ensures.grown
    (subst (λ (item : Proved). Contains (facts_in c.add.new.layers) item.fact) c.opened.ensures c.in_ok-add.ensures.there))
    (subst (λ (item : Proved). Contains (facts_in c.add-2.new.layers) item.fact) c.opened-2.ensures there))
    c.add-2.ensures.there
