use Rattle.std.proofs.Common.{Contains, subst}
use Rattle.std.proofs.lemmas.Result.{on_ok_weaker}
use Rattle.fact_table.specs.declared.types.Fact.TheVariants.{Sub}
use Rattle.rule_steps.specs.Growing.{facts_in}
use Rattle.rule_steps.proofs.GrowthLaws.{has_stays}
use Rattle.fact_table.specs.declared.types.Proved.{Proved}
use Rattle.rule_steps.proofs.BeginLaws.{begun_all}
use Rattle.rule_steps.proofs.steps.begin.Goals as goal

pub returns-clause-begun : goal.returns-clause-begun
returns-clause-begun c =
    let itself : Contains (facts_in c.add.new.layers) (Sub c.args.node c.args.node) = subst (λ (item : Proved). Contains (facts_in c.add.new.layers) item.fact) c.stated.ensures c.in_ok-add.ensures.there in
    let top : Contains (facts_in c.add-2.new.layers) (Sub c.args.node 0) = subst (λ (item : Proved). Contains (facts_in c.add-2.new.layers) item.fact) c.stated-2.ensures c.in_ok-add-2.ensures.there in
    on_ok_weaker c.link_to_itself.result
    (λ linked. begun_all c.args.grounds.now c.args.node (facts_in c.link_to_itself.new.layers)
    (has_stays c.args.grounds.now c.add-2.new.layers c.link_to_itself.new.layers (Sub c.args.node c.args.node) c.link_to_itself.ensures.grown
    (has_stays c.args.grounds.now c.add.new.layers c.add-2.new.layers (Sub c.args.node c.args.node) c.add-2.ensures.grown itself))
    (has_stays c.args.grounds.now c.add-2.new.layers c.link_to_itself.new.layers (Sub c.args.node 0) c.link_to_itself.ensures.grown top) linked)
    c.link_to_itself.ensures.linked
