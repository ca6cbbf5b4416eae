use Rattle.std.proofs.lemmas.Result.{on_ok_weaker}
use Rattle.fact_table.specs.declared.types.Fact.TheVariants.{Link}
use Rattle.rule_steps.specs.Growing.{facts_in}
use Rattle.rule_steps.proofs.GrowthLaws.{at_grown}
use Rattle.rule_steps.proofs.PairLaws.{void_follows, void_first}
use Rattle.rule_steps.proofs.pairs.void_from.Goals as goal

pub add-requires : goal.add-requires
add-requires c =
    void_follows c.args.grounds.now c.args.layers.now c.args.link.place c.in-Some.empty c.args.link.from c.args.link.role c.args.link.into c.requires c.in-Some.ensures

pub returns-clause-answered : goal.returns-clause-answered
returns-clause-answered c =
    on_ok_weaker c.add.result
    (λ there. void_first c.args.grounds.now c.args.link.place c.args.link.from c.args.link.role c.args.link.into (facts_in c.add.new.layers)
    (at_grown c.args.grounds.now c.args.layers.now c.add.new.layers c.args.link.place (Link c.args.link.from c.args.link.role c.args.link.into) c.add.ensures.grown c.requires) (λ below. there))
    c.add.ensures.there
