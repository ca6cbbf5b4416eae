use Rattle.std.proofs.Common.{◌+◌, ℕ, get_or, Contains, subst, sym}
use Rattle.std.proofs.lemmas.List.Elements.{Contains-get_or}
use Rattle.std.proofs.lemmas.Option.{slice_get-get_or}
use Rattle.fact_table.specs.declared.types.Fact.TheVariants.{Link}
use Rattle.fact_table.specs.declared.types.Source.{Source}
use Rattle.el_rules.specs.Following.{IsPlacedBelow}
use Rattle.el_rules.specs.Saying.{Joins}
use Rattle.case_tables.specs.declared.types.Join.{Join}
use Rattle.rule_steps.specs.Counted.{IsCounting}
use Rattle.rule_steps.specs.Growing.{facts_in}
use Rattle.rule_steps.proofs.GrowthLaws.{at_grown, has_stays, grown_more, placed_up_to, placed_stays}
use Rattle.rule_steps.proofs.LoopLaws.{each_more, each_map}
use Rattle.rule_steps.proofs.PairLaws.{chained_second}
use Rattle.rule_steps.proofs.pairs.chain_into.Goals as goal

pub chain_back-requires-clause-at : goal.chain_back-requires-clause-at
chain_back-requires-clause-at c =
    at_grown c.args.grounds.now c.args.layers.now c.loop-join.layers c.args.link.place (Link c.args.link.from c.args.link.role c.args.link.into) c.loop-join.invariant.grown c.requires

pub chain_back-requires-clause-joins : goal.chain_back-requires-clause-joins
chain_back-requires-clause-joins c counts =
    let d : Join = record { first = 0; second = 0; into = 0; source = Source.Left 0 } in
    let here : Join = get_or c.joins_by_second-join-items.result.now c.loop-join.join-index d in
    let held : Contains c.joins_by_second-join-items.result.now here = Contains-get_or c.joins_by_second-join-items.result.now c.loop-join.join-index d c.loop-join-test.true in
    let found = (c.joins_by_second-join-items.ensures here counts).0 held in
    (found.0, (counts, found.1), subst (λ r. Joins found.0 here.first r here.into) (sym found.2.0) found.2.1)

pub loop-join-preserved : goal.loop-join-preserved
loop-join-preserved c =
    let d : Join = record { first = 0; second = 0; into = 0; source = Source.Left 0 } in
    let here : Join = get_or c.joins_by_second-join-items.result.now c.loop-join.join-index d in
    record {
      grown = grown_more c.args.grounds.now c.args.layers.now c.loop-join.layers c.chain_back.new.layers c.loop-join.invariant.grown c.chain_back.ensures.grown;
      each = each_more c.joins_by_second-join-items.result.now c.loop-join.join-index (λ (e : Join). IsCounting c.args.grounds.now e.source → (x : ℕ) → IsPlacedBelow (c.args.link.place + 1) (facts_in c.args.layers.now) (Link x e.first c.args.link.from) → Contains (facts_in c.loop-join.layers) (Link x e.into c.args.link.into)) (λ (e : Join). IsCounting c.args.grounds.now e.source → (x : ℕ) → IsPlacedBelow (c.args.link.place + 1) (facts_in c.args.layers.now) (Link x e.first c.args.link.from) → Contains (facts_in c.chain_back.new.layers) (Link x e.into c.args.link.into)) here
          (λ e has counts x below. has_stays c.args.grounds.now c.loop-join.layers c.chain_back.new.layers (Link x e.into c.args.link.into) c.chain_back.ensures.grown (has counts x below))
          c.loop-join.invariant.each (slice_get-get_or c.joins_by_second-join-items.result.now c.loop-join.join-index d c.loop-join-test.true)
          (λ counts x below. c.in_ok-chain_back.ensures.met counts x
          (placed_stays c.args.grounds.now c.args.layers.now c.loop-join.layers (c.args.link.place + 1) (Link x here.first c.args.link.from) c.loop-join.invariant.grown below));
    }

pub returns-clause-answered : goal.returns-clause-answered
returns-clause-answered c =
    chained_second c.args.grounds.now c.args.link.place c.args.link.from c.args.link.role c.args.link.into (facts_in c.loop-join.layers)
    (at_grown c.args.grounds.now c.args.layers.now c.loop-join.layers c.args.link.place (Link c.args.link.from c.args.link.role c.args.link.into) c.loop-join.invariant.grown c.requires)
    c.loop-join.join-index c.joins_by_second-join-items.result.now c.joins_by_second-join-items.ensures c.loop-join-test.false
    (each_map c.joins_by_second-join-items.result.now c.loop-join.join-index (λ (e : Join). IsCounting c.args.grounds.now e.source → (x : ℕ) → IsPlacedBelow (c.args.link.place + 1) (facts_in c.args.layers.now) (Link x e.first c.args.link.from) → Contains (facts_in c.loop-join.layers) (Link x e.into c.args.link.into))
    (λ (e : Join). IsCounting c.args.grounds.now e.source → (x : ℕ) → IsPlacedBelow (c.args.link.place + 1) (facts_in c.loop-join.layers) (Link x e.first c.args.link.from) → Contains (facts_in c.loop-join.layers) (Link x e.into c.args.link.into))
    (λ e has counts x below. has counts x (placed_up_to c.args.grounds.now c.args.layers.now c.loop-join.layers c.args.link.place (Link c.args.link.from c.args.link.role c.args.link.into) (Link x e.first c.args.link.from) c.loop-join.invariant.grown c.requires below))
    c.loop-join.invariant.each)
