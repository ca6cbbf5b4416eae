use Rattle.std.proofs.Common.{◌+◌, Contains, refl, subst, arith}
use Rattle.fact_table.specs.declared.types.Fact.TheVariants.{Link}
use Rattle.fact_table.specs.declared.types.FactSide.{FactSide}
use Rattle.fact_table.specs.declared.types.FactGroup.TheVariants.{Links}
use Rattle.fact_table.specs.Groups.{group_at, node_at}
use Rattle.rule_steps.specs.Growing.{facts_in}
use Rattle.rule_steps.proofs.GrowthLaws.{at_grown, has_stays, grown_more}
use Rattle.rule_steps.proofs.WalkLaws.{met_more, met_all}
use Rattle.rule_steps.proofs.JoinLaws.{link_from_at}
use Rattle.rule_steps.proofs.PairLaws.{chain_follows}
use Rattle.rule_steps.proofs.pairs.chain_on.Goals as goal

pub add-requires : goal.add-requires
add-requires c =
    let found = c.in-Some.ensures.1 in
    chain_follows c.args.grounds.now c.loop-partner.layers c.args.link.place c.in-Some.partner c.args.link.from c.args.link.role c.args.link.into c.args.join.second c.args.join.into c.node_at-end.result c.args.join.source
    (c.requires.joins (c.if-not-counts.ensures.0 refl))
    (at_grown c.args.grounds.now c.args.layers.now c.loop-partner.layers c.args.link.place (Link c.args.link.from c.args.link.role c.args.link.into) c.loop-partner.invariant.grown c.requires.at)
    (link_from_at (facts_in c.loop-partner.layers) c.in-Some.partner found.0 c.args.join.second c.args.link.into c.node_at-end.result found.1 found.2 (c.node_at-end.ensures found.0 found.1))

pub loop-partner-preserved : goal.loop-partner-preserved
loop-partner-preserved c =
    let found = c.in-Some.ensures.1 in
    record {
      grown = grown_more c.args.grounds.now c.args.layers.now c.loop-partner.layers c.add.new.layers c.loop-partner.invariant.grown c.add.ensures.grown;
      within = omega (arith, c.in-Some.ensures.0, c.loop-partner.invariant.within);
      met = met_more (group_at FactSide.From) (Links c.args.link.into c.args.join.second) (facts_in c.args.layers.now) (c.args.link.place + 1) (facts_in c.loop-partner.layers) c.loop-partner.below c.in-Some.partner found.0
          (λ fact. Contains (facts_in c.loop-partner.layers) (Link c.args.link.from c.args.join.into (node_at FactSide.Into fact)))
          (λ fact. Contains (facts_in c.add.new.layers) (Link c.args.link.from c.args.join.into (node_at FactSide.Into fact)))
          (λ k fact. at_grown c.args.grounds.now c.args.layers.now c.loop-partner.layers k fact c.loop-partner.invariant.grown)
          c.in-Some.ensures found.1
          (λ fact. has_stays c.args.grounds.now c.loop-partner.layers c.add.new.layers (Link c.args.link.from c.args.join.into (node_at FactSide.Into fact)) c.add.ensures.grown)
          (subst (λ x. Contains (facts_in c.add.new.layers) (Link c.args.link.from c.args.join.into x)) (c.node_at-end.ensures found.0 found.1) c.in_ok-add.ensures.there)
          c.loop-partner.invariant.met;
    }

pub returns-clause-met : goal.returns-clause-met
returns-clause-met c counts end (k, below, at) =
    met_all (group_at FactSide.From) (Links c.args.link.into c.args.join.second) (facts_in c.args.layers.now) (c.args.link.place + 1) (facts_in c.loop-partner.layers) c.loop-partner.below
    (λ fact. Contains (facts_in c.loop-partner.layers) (Link c.args.link.from c.args.join.into (node_at FactSide.Into fact)))
    (λ k' fact. at_grown c.args.grounds.now c.args.layers.now c.loop-partner.layers k' fact c.loop-partner.invariant.grown)
    c.in_default.ensures c.loop-partner.invariant.met k (Link c.args.link.into c.args.join.second end) below at refl
