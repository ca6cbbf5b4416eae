use Rattle.std.proofs.Common.{◌+◌, ℕ, Contains, refl, subst, sym, arith}
use Rattle.concept_store.specs.Nodes.{IsNode}
use Rattle.concept_store.specs.declared.types.Node.TheVariants.{Exists}
use Rattle.fact_table.specs.declared.types.Fact.{Fact}
use Rattle.fact_table.specs.declared.types.Fact.TheVariants.{Sub, Link}
use Rattle.fact_table.specs.declared.types.FactSide.{FactSide}
use Rattle.fact_table.specs.declared.types.FactGroup.TheVariants.{Subs}
use Rattle.fact_table.specs.Groups.{group_at, node_at}
use Rattle.rule_steps.specs.Counted.{nodes_of}
use Rattle.rule_steps.specs.Growing.{facts_in}
use Rattle.rule_steps.proofs.GrowthLaws.{at_grown, has_stays, grown_more, placed_up_to}
use Rattle.rule_steps.proofs.WalkLaws.{met_more, met_all}
use Rattle.rule_steps.proofs.JoinLaws.{sub_from_at}
use Rattle.rule_steps.proofs.PairLaws.{filled_first}
use Rattle.rule_steps.proofs.pairs.fill_from.Goals as goal

pub fill-requires-clause-at : goal.fill-requires-clause-at
fill-requires-clause-at c =
    at_grown c.args.grounds.now c.args.layers.now c.loop-partner.layers c.args.link.place (Link c.args.link.from c.args.link.role c.args.link.into) c.loop-partner.invariant.grown c.requires

pub fill-requires-clause-filler : goal.fill-requires-clause-filler
fill-requires-clause-filler c =
    let found = c.in-Some.ensures.1 in
    sub_from_at (facts_in c.loop-partner.layers) c.in-Some.partner found.0 c.args.link.into c.node_at-high.result found.1 found.2 (c.node_at-high.ensures found.0 found.1)

pub loop-partner-preserved : goal.loop-partner-preserved
loop-partner-preserved c =
    let found = c.in-Some.ensures.1 in
    record {
      grown = grown_more c.args.grounds.now c.args.layers.now c.loop-partner.layers c.fill.new.layers c.loop-partner.invariant.grown c.fill.ensures.grown;
      within = omega (arith, c.in-Some.ensures.0, c.loop-partner.invariant.within);
      met = met_more (group_at FactSide.From) (Subs c.args.link.into) (facts_in c.args.layers.now) (c.args.link.place + 1) (facts_in c.loop-partner.layers) c.loop-partner.below c.in-Some.partner found.0
          (λ (fact : Fact). (node : ℕ) → IsNode (nodes_of c.args.grounds.now) node (Exists c.args.link.role (node_at FactSide.Into fact)) → Contains (facts_in c.loop-partner.layers) (Sub c.args.link.from node)) (λ (fact : Fact). (node : ℕ) → IsNode (nodes_of c.args.grounds.now) node (Exists c.args.link.role (node_at FactSide.Into fact)) → Contains (facts_in c.fill.new.layers) (Sub c.args.link.from node))
          (λ k fact. at_grown c.args.grounds.now c.args.layers.now c.loop-partner.layers k fact c.loop-partner.invariant.grown)
          c.in-Some.ensures found.1
          (λ fact has node is. has_stays c.args.grounds.now c.loop-partner.layers c.fill.new.layers (Sub c.args.link.from node) c.fill.ensures.grown (has node is))
          (λ node is. c.in_ok-fill.ensures.there node (subst (λ x. IsNode (nodes_of c.args.grounds.now) node (Exists c.args.link.role x)) (sym (c.node_at-high.ensures found.0 found.1)) is))
          c.loop-partner.invariant.met;
    }

pub returns-clause-answered : goal.returns-clause-answered
returns-clause-answered c =
    filled_first c.args.grounds.now c.args.link.place c.args.link.from c.args.link.role c.args.link.into (facts_in c.loop-partner.layers)
    (at_grown c.args.grounds.now c.args.layers.now c.loop-partner.layers c.args.link.place (Link c.args.link.from c.args.link.role c.args.link.into) c.loop-partner.invariant.grown c.requires)
    (λ node x is below. let was = placed_up_to c.args.grounds.now c.args.layers.now c.loop-partner.layers c.args.link.place (Link c.args.link.from c.args.link.role c.args.link.into) (Sub c.args.link.into x) c.loop-partner.invariant.grown c.requires below in
    met_all (group_at FactSide.From) (Subs c.args.link.into) (facts_in c.args.layers.now) (c.args.link.place + 1) (facts_in c.loop-partner.layers) c.loop-partner.below (λ (fact : Fact). (node : ℕ) → IsNode (nodes_of c.args.grounds.now) node (Exists c.args.link.role (node_at FactSide.Into fact)) → Contains (facts_in c.loop-partner.layers) (Sub c.args.link.from node))
    (λ k fact. at_grown c.args.grounds.now c.args.layers.now c.loop-partner.layers k fact c.loop-partner.invariant.grown)
    c.in_default.ensures c.loop-partner.invariant.met was.0 (Sub c.args.link.into x) was.1 was.2 refl node is)
