use Rattle.std.proofs.Common.{refl, subst, sym}
use Rattle.fact_table.specs.declared.types.Fact.TheVariants.{Sub}
use Rattle.fact_table.specs.declared.types.Reason.{Reason}
use Rattle.fact_layers.specs.Tops.{whole}
use Rattle.rule_steps.specs.Inside.Steps.{IsDerivedFrom}
use Rattle.rule_steps.proofs.PairLaws.{whole_follows}
use Rattle.rule_steps.proofs.pairs.meet_with.Goals as goal

pub add-requires : goal.add-requires
add-requires c =
    subst (λ (r : Reason). IsDerivedFrom c.args.grounds.now (whole c.args.layers.now) (record { fact = Sub c.args.sub.low c.args.whole.node; reason = r })) (sym c.whole_reason.ensures)
    (whole_follows c.args.grounds.now c.args.layers.now c.args.sub.place c.in-Some.other c.args.sub.low c.args.sub.high c.args.whole c.args.whole.is_left c.requires.node refl c.requires.at c.in-Some.ensures)
