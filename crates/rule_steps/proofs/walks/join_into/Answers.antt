use Rattle.std.proofs.Common.{◌+◌, Contains, subst, sym, refl, arith}
use Rattle.fact_table.specs.declared.types.Fact.TheVariants.{Link}
use Rattle.fact_table.specs.declared.types.FactSide.{FactSide}
use Rattle.fact_table.specs.declared.types.FactGroup.TheVariants.{Links}
use Rattle.fact_table.specs.declared.types.Proved.{Proved}
use Rattle.fact_table.specs.Groups.{group_at, node_at}
use Rattle.fact_layers.specs.Tops.{whole}
use Rattle.rule_steps.specs.Growing.{facts_in}
use Rattle.rule_steps.specs.Inside.Steps.{IsDerivedFrom, joined_fact}
use Rattle.rule_steps.proofs.GrowthLaws.{at_grown, has_stays, grown_more}
use Rattle.rule_steps.proofs.JoinLaws.{link_into_at, joined_follows}
use Rattle.rule_steps.proofs.WalkLaws.{met_more, met_all}
use Rattle.rule_steps.proofs.walks.join_into.Goals as goal

pub add-requires : goal.add-requires
add-requires c =
    let found = c.in-Some.ensures.1 in
    subst (IsDerivedFrom c.args.grounds.now (whole c.loop-partner.layers)) (sym c.joined_item.ensures)
    (joined_follows c.args.grounds.now c.args.role c.args.into c.args.place c.in-Some.partner c.node_at-a.result c.args.joined c.args.layers.now c.loop-partner.layers
    c.loop-partner.invariant.grown c.requires.within c.requires.joins
    (link_into_at (facts_in c.loop-partner.layers) c.in-Some.partner found.0 c.args.role c.node_at-a.result c.args.into found.1 found.2 (c.node_at-a.ensures found.0 found.1)))

pub loop-partner-preserved : goal.loop-partner-preserved
loop-partner-preserved c =
    let found = c.in-Some.ensures.1 in
    let there : Contains (facts_in c.add.new.layers) (joined_fact c.args.joined c.node_at-a.result) =
    subst (λ (item : Proved). Contains (facts_in c.add.new.layers) item.fact) c.joined_item.ensures c.in_ok-add.ensures.there in
    record {
      grown = grown_more c.args.grounds.now c.args.layers.now c.loop-partner.layers c.add.new.layers c.loop-partner.invariant.grown c.add.ensures.grown;
      within = omega (arith, c.in-Some.ensures.0, c.loop-partner.invariant.within);
      met = met_more (group_at FactSide.Into) (Links c.args.into c.args.role) (facts_in c.args.layers.now) (c.args.place + 1) (facts_in c.loop-partner.layers) c.loop-partner.below c.in-Some.partner found.0
          (λ fact. Contains (facts_in c.loop-partner.layers) (joined_fact c.args.joined (node_at FactSide.From fact)))
          (λ fact. Contains (facts_in c.add.new.layers) (joined_fact c.args.joined (node_at FactSide.From fact)))
          (λ k fact. at_grown c.args.grounds.now c.args.layers.now c.loop-partner.layers k fact c.loop-partner.invariant.grown)
          c.in-Some.ensures found.1
          (λ fact. has_stays c.args.grounds.now c.loop-partner.layers c.add.new.layers (joined_fact c.args.joined (node_at FactSide.From fact)) c.add.ensures.grown)
          (subst (λ a. Contains (facts_in c.add.new.layers) (joined_fact c.args.joined a)) (c.node_at-a.ensures found.0 found.1) there)
          c.loop-partner.invariant.met;
    }

pub returns-clause-met : goal.returns-clause-met
returns-clause-met c a (k, below, at) =
    met_all (group_at FactSide.Into) (Links c.args.into c.args.role) (facts_in c.args.layers.now) (c.args.place + 1) (facts_in c.loop-partner.layers) c.loop-partner.below
    (λ fact. Contains (facts_in c.loop-partner.layers) (joined_fact c.args.joined (node_at FactSide.From fact)))
    (λ k' fact. at_grown c.args.grounds.now c.args.layers.now c.loop-partner.layers k' fact c.loop-partner.invariant.grown)
    c.in_default.ensures c.loop-partner.invariant.met k (Link a c.args.role c.args.into) below at refl
