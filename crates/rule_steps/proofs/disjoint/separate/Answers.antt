use Rattle.std.proofs.Common.{◌∙◌, ◌+◌, length, Contains, refl, subst, sym, arith}
use Rattle.std.proofs.lemmas.Bool.{eqb-true}
use Rattle.std.proofs.lemmas.Option.{slice_get_within}
use Rattle.fact_table.specs.declared.types.Fact.{Fact}
use Rattle.fact_table.specs.declared.types.Fact.TheVariants.{Sub}
use Rattle.fact_table.specs.declared.types.FactSide.{FactSide}
use Rattle.fact_table.specs.declared.types.FactGroup.TheVariants.{Subs}
use Rattle.fact_table.specs.declared.types.Source.{Source}
use Rattle.fact_table.specs.Groups.{group_at, node_at}
use Rattle.rule_steps.specs.Growing.{facts_in}
use Rattle.rule_steps.specs.Inside.Steps.{SeparatesBy}
use Rattle.rule_steps.proofs.GrowthLaws.{at_grown, has_stays, grown_more, placed_up_to}
use Rattle.rule_steps.proofs.WalkLaws.{met_more, met_all}
use Rattle.rule_steps.proofs.JoinLaws.{sub_from_at}
use Rattle.rule_steps.proofs.DisjointLaws.{apart_first, apart_second, operands_none}
use Rattle.rule_steps.proofs.disjoint.separate.Goals as goal

pub returns-then-is_empty-clause-first : goal.returns-then-is_empty-clause-first
returns-then-is_empty-clause-first c =
    apart_first c.args.grounds.now c.args.sub.place c.args.sub.low c.args.sub.high (facts_in c.args.layers.now) c.requires
    (λ source x says below. absurd (operands_none c.args.grounds.now c.args.sub.high x c.operands.result.now c.operands.ensures
    (eqb-true (length c.operands.result.now) 0 (sym c.is_empty.ensures ∙ c.if-is_empty.true)) source says))

pub returns-then-is_empty-clause-second : goal.returns-then-is_empty-clause-second
returns-then-is_empty-clause-second c =
    apart_second c.args.grounds.now c.args.sub.place c.args.sub.low c.args.sub.high (facts_in c.args.layers.now) c.requires
    (λ source x says below. absurd (operands_none c.args.grounds.now c.args.sub.high x c.operands.result.now c.operands.ensures
    (eqb-true (length c.operands.result.now) 0 (sym c.is_empty.ensures ∙ c.if-is_empty.true)) source says))

pub after-below-requires : goal.after-below-requires
after-below-requires c = slice_get_within (facts_in c.args.layers.now) c.args.sub.place (Sub c.args.sub.low c.args.sub.high) c.requires

pub node_at-high-requires : goal.node_at-high-requires
node_at-high-requires c = slice_get_within (facts_in c.loop-partner.layers) c.in-Some.partner c.in-Some.ensures.1.0 c.in-Some.ensures.1.1

pub disjoin-requires-clause-at : goal.disjoin-requires-clause-at
disjoin-requires-clause-at c =
    at_grown c.args.grounds.now c.args.layers.now c.loop-partner.layers c.args.sub.place (Sub c.args.sub.low c.args.sub.high) c.loop-partner.invariant.grown c.requires

pub disjoin-requires-clause-other : goal.disjoin-requires-clause-other
disjoin-requires-clause-other c =
    let found = c.in-Some.ensures.1 in
    sub_from_at (facts_in c.loop-partner.layers) c.in-Some.partner found.0 c.args.sub.low c.node_at-high.result found.1 found.2 (c.node_at-high.ensures found.0 found.1)

pub loop-partner-preserved : goal.loop-partner-preserved
loop-partner-preserved c =
    let found = c.in-Some.ensures.1 in
    record {
      grown = grown_more c.args.grounds.now c.args.layers.now c.loop-partner.layers c.disjoin.new.layers c.loop-partner.invariant.grown c.disjoin.ensures.grown;
      within = omega (arith, c.in-Some.ensures.0, c.loop-partner.invariant.within);
      met = met_more (group_at FactSide.From) (Subs c.args.sub.low) (facts_in c.args.layers.now) (c.args.sub.place + 1) (facts_in c.loop-partner.layers) c.loop-partner.below c.in-Some.partner found.0
          (λ (fact : Fact). (source : Source) → SeparatesBy c.args.grounds.now source c.args.sub.high (node_at FactSide.Into fact) → Contains (facts_in c.loop-partner.layers) (Sub c.args.sub.low 1)) (λ (fact : Fact). (source : Source) → SeparatesBy c.args.grounds.now source c.args.sub.high (node_at FactSide.Into fact) → Contains (facts_in c.disjoin.new.layers) (Sub c.args.sub.low 1))
          (λ k fact. at_grown c.args.grounds.now c.args.layers.now c.loop-partner.layers k fact c.loop-partner.invariant.grown)
          c.in-Some.ensures found.1
          (λ fact has source says. has_stays c.args.grounds.now c.loop-partner.layers c.disjoin.new.layers (Sub c.args.sub.low 1) c.disjoin.ensures.grown (has source says))
          (λ source says. c.in_ok-disjoin.ensures.there source (subst (λ x. SeparatesBy c.args.grounds.now source c.args.sub.high x) (sym (c.node_at-high.ensures found.0 found.1)) says))
          c.loop-partner.invariant.met;
    }

pub returns-clause-first : goal.returns-clause-first
returns-clause-first c =
    apart_first c.args.grounds.now c.args.sub.place c.args.sub.low c.args.sub.high (facts_in c.loop-partner.layers)
    (at_grown c.args.grounds.now c.args.layers.now c.loop-partner.layers c.args.sub.place (Sub c.args.sub.low c.args.sub.high) c.loop-partner.invariant.grown c.requires)
    (λ source x says below. let was = placed_up_to c.args.grounds.now c.args.layers.now c.loop-partner.layers c.args.sub.place (Sub c.args.sub.low c.args.sub.high) (Sub c.args.sub.low x) c.loop-partner.invariant.grown c.requires below in
    met_all (group_at FactSide.From) (Subs c.args.sub.low) (facts_in c.args.layers.now) (c.args.sub.place + 1) (facts_in c.loop-partner.layers) c.loop-partner.below (λ (fact : Fact). (source : Source) → SeparatesBy c.args.grounds.now source c.args.sub.high (node_at FactSide.Into fact) → Contains (facts_in c.loop-partner.layers) (Sub c.args.sub.low 1))
    (λ k fact. at_grown c.args.grounds.now c.args.layers.now c.loop-partner.layers k fact c.loop-partner.invariant.grown)
    c.in_default.ensures c.loop-partner.invariant.met was.0 (Sub c.args.sub.low x) was.1 was.2 refl source says)

pub returns-clause-second : goal.returns-clause-second
returns-clause-second c =
    apart_second c.args.grounds.now c.args.sub.place c.args.sub.low c.args.sub.high (facts_in c.loop-partner.layers)
    (at_grown c.args.grounds.now c.args.layers.now c.loop-partner.layers c.args.sub.place (Sub c.args.sub.low c.args.sub.high) c.loop-partner.invariant.grown c.requires)
    (λ source x says below. let was = placed_up_to c.args.grounds.now c.args.layers.now c.loop-partner.layers c.args.sub.place (Sub c.args.sub.low c.args.sub.high) (Sub c.args.sub.low x) c.loop-partner.invariant.grown c.requires below in
    met_all (group_at FactSide.From) (Subs c.args.sub.low) (facts_in c.args.layers.now) (c.args.sub.place + 1) (facts_in c.loop-partner.layers) c.loop-partner.below (λ (fact : Fact). (source : Source) → SeparatesBy c.args.grounds.now source c.args.sub.high (node_at FactSide.Into fact) → Contains (facts_in c.loop-partner.layers) (Sub c.args.sub.low 1))
    (λ k fact. at_grown c.args.grounds.now c.args.layers.now c.loop-partner.layers k fact c.loop-partner.invariant.grown)
    c.in_default.ensures c.loop-partner.invariant.met was.0 (Sub c.args.sub.low x) was.1 was.2 refl source says)
