use Rattle.std.proofs.Common.{◌+◌, ℕ, get_or, Contains}
use Rattle.std.proofs.lemmas.List.Elements.{Contains-get_or}
use Rattle.std.proofs.lemmas.Option.{slice_get-get_or}
use Rattle.fact_table.specs.declared.types.Fact.TheVariants.{Sub, Link}
use Rattle.el_rules.specs.Following.{IsPlacedBelow}
use Rattle.case_tables.specs.declared.types.Restriction.{Restriction}
use Rattle.rule_steps.specs.Growing.{facts_in}
use Rattle.rule_steps.proofs.GrowthLaws.{at_grown, has_stays, grown_more, placed_up_to, placed_stays}
use Rattle.rule_steps.proofs.LoopLaws.{each_more, each_map}
use Rattle.rule_steps.proofs.PairLaws.{fill_joins, filled_second}
use Rattle.rule_steps.proofs.pairs.fill_into.Goals as goal

pub join_into-requires-clause-joins : goal.join_into-requires-clause-joins
join_into-requires-clause-joins c =
    let d : Restriction = record { node = 0; role = 0; filler = 0 } in
    let here : Restriction = get_or c.restrictions_into-entry-items.result.now c.loop-entry.entry-index d in
    let held : Contains c.restrictions_into-entry-items.result.now here = Contains-get_or c.restrictions_into-entry-items.result.now c.loop-entry.entry-index d c.loop-entry-test.true in
    let is = (c.restrictions_into-entry-items.ensures here).0 held in
    fill_joins c.args.grounds.now (facts_in c.loop-entry.layers) c.args.sub.place c.args.sub.low c.args.sub.high here
    (at_grown c.args.grounds.now c.args.layers.now c.loop-entry.layers c.args.sub.place (Sub c.args.sub.low c.args.sub.high) c.loop-entry.invariant.grown c.requires) is.0 is.1

pub returns-in_err-join_into-clause-grown : goal.returns-in_err-join_into-clause-grown
returns-in_err-join_into-clause-grown c =
    grown_more c.args.grounds.now c.args.layers.now c.loop-entry.layers c.join_into.new.layers c.loop-entry.invariant.grown c.join_into.ensures.grown

pub loop-entry-preserved : goal.loop-entry-preserved
loop-entry-preserved c =
    let d : Restriction = record { node = 0; role = 0; filler = 0 } in
    let here : Restriction = get_or c.restrictions_into-entry-items.result.now c.loop-entry.entry-index d in
    record {
      grown = grown_more c.args.grounds.now c.args.layers.now c.loop-entry.layers c.join_into.new.layers c.loop-entry.invariant.grown c.join_into.ensures.grown;
      each = each_more c.restrictions_into-entry-items.result.now c.loop-entry.entry-index (λ (e : Restriction). (x : ℕ) → IsPlacedBelow (c.args.sub.place + 1) (facts_in c.args.layers.now) (Link x e.role c.args.sub.low) → Contains (facts_in c.loop-entry.layers) (Sub x e.node)) (λ (e : Restriction). (x : ℕ) → IsPlacedBelow (c.args.sub.place + 1) (facts_in c.args.layers.now) (Link x e.role c.args.sub.low) → Contains (facts_in c.join_into.new.layers) (Sub x e.node)) here
          (λ e has x below. has_stays c.args.grounds.now c.loop-entry.layers c.join_into.new.layers (Sub x e.node) c.join_into.ensures.grown (has x below))
          c.loop-entry.invariant.each (slice_get-get_or c.restrictions_into-entry-items.result.now c.loop-entry.entry-index d c.loop-entry-test.true)
          (λ x below. c.in_ok-join_into.ensures.met x
          (placed_stays c.args.grounds.now c.args.layers.now c.loop-entry.layers (c.args.sub.place + 1) (Link x here.role c.args.sub.low) c.loop-entry.invariant.grown below));
    }

pub returns-clause-answered : goal.returns-clause-answered
returns-clause-answered c =
    filled_second c.args.grounds.now c.args.sub.place c.args.sub.low c.args.sub.high (facts_in c.loop-entry.layers)
    (at_grown c.args.grounds.now c.args.layers.now c.loop-entry.layers c.args.sub.place (Sub c.args.sub.low c.args.sub.high) c.loop-entry.invariant.grown c.requires)
    c.loop-entry.entry-index c.restrictions_into-entry-items.result.now c.restrictions_into-entry-items.ensures c.loop-entry-test.false
    (each_map c.restrictions_into-entry-items.result.now c.loop-entry.entry-index (λ (e : Restriction). (x : ℕ) → IsPlacedBelow (c.args.sub.place + 1) (facts_in c.args.layers.now) (Link x e.role c.args.sub.low) → Contains (facts_in c.loop-entry.layers) (Sub x e.node))
    (λ (e : Restriction). (x : ℕ) → IsPlacedBelow (c.args.sub.place + 1) (facts_in c.loop-entry.layers) (Link x e.role c.args.sub.low) → Contains (facts_in c.loop-entry.layers) (Sub x e.node))
    (λ e has x below. has x (placed_up_to c.args.grounds.now c.args.layers.now c.loop-entry.layers c.args.sub.place (Sub c.args.sub.low c.args.sub.high) (Link x e.role c.args.sub.low) c.loop-entry.invariant.grown c.requires below))
    c.loop-entry.invariant.each)
