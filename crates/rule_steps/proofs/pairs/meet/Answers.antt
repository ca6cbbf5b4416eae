use Rattle.std.proofs.Common.{false, ◌+◌, get_or, Contains}
use Rattle.std.proofs.lemmas.Option.{slice_get-get_or}
use Rattle.fact_table.specs.declared.types.Fact.TheVariants.{Sub}
use Rattle.el_rules.specs.Following.{IsPlacedBelow}
use Rattle.case_tables.specs.declared.types.Whole.{Whole}
use Rattle.rule_steps.specs.Growing.{facts_in}
use Rattle.rule_steps.proofs.GrowthLaws.{at_grown, has_stays, grown_more, placed_up_to}
use Rattle.rule_steps.proofs.LoopLaws.{each_more, each_map}
use Rattle.rule_steps.proofs.PlaceLaws.{held_below}
use Rattle.rule_steps.proofs.PairLaws.{met_first, met_second}
use Rattle.rule_steps.proofs.pairs.meet.Goals as goal

pub meet_with-requires-clause-at : goal.meet_with-requires-clause-at
meet_with-requires-clause-at c =
    at_grown c.args.grounds.now c.args.layers.now c.loop-whole.layers c.args.sub.place (Sub c.args.sub.low c.args.sub.high) c.loop-whole.invariant.grown c.requires

pub loop-whole-preserved : goal.loop-whole-preserved
loop-whole-preserved c =
    let d : Whole = record { node = 0; other = 0; is_left = false } in
    let here : Whole = get_or c.wholes-whole-items.result.now c.loop-whole.whole-index d in
    record {
      grown = grown_more c.args.grounds.now c.args.layers.now c.loop-whole.layers c.meet_with.new.layers c.loop-whole.invariant.grown c.meet_with.ensures.grown;
      each = each_more c.wholes-whole-items.result.now c.loop-whole.whole-index (λ (e : Whole). Contains (facts_in c.args.layers.now) (Sub c.args.sub.low e.other) → Contains (facts_in c.loop-whole.layers) (Sub c.args.sub.low e.node)) (λ (e : Whole). Contains (facts_in c.args.layers.now) (Sub c.args.sub.low e.other) → Contains (facts_in c.meet_with.new.layers) (Sub c.args.sub.low e.node)) here
          (λ e has held. has_stays c.args.grounds.now c.loop-whole.layers c.meet_with.new.layers (Sub c.args.sub.low e.node) c.meet_with.ensures.grown (has held))
          c.loop-whole.invariant.each (slice_get-get_or c.wholes-whole-items.result.now c.loop-whole.whole-index d c.loop-whole-test.true)
          (λ held. c.in_ok-meet_with.ensures.there (has_stays c.args.grounds.now c.args.layers.now c.loop-whole.layers (Sub c.args.sub.low here.other) c.loop-whole.invariant.grown held));
    }

pub returns-clause-first : goal.returns-clause-first
returns-clause-first c =
    met_first c.args.grounds.now c.args.sub.place c.args.sub.low c.args.sub.high (facts_in c.loop-whole.layers)
    (at_grown c.args.grounds.now c.args.layers.now c.loop-whole.layers c.args.sub.place (Sub c.args.sub.low c.args.sub.high) c.loop-whole.invariant.grown c.requires)
    c.loop-whole.whole-index c.wholes-whole-items.result.now c.wholes-whole-items.ensures c.loop-whole-test.false
    (each_map c.wholes-whole-items.result.now c.loop-whole.whole-index (λ (e : Whole). Contains (facts_in c.args.layers.now) (Sub c.args.sub.low e.other) → Contains (facts_in c.loop-whole.layers) (Sub c.args.sub.low e.node))
    (λ (e : Whole). IsPlacedBelow (c.args.sub.place + 1) (facts_in c.loop-whole.layers) (Sub c.args.sub.low e.other) → Contains (facts_in c.loop-whole.layers) (Sub c.args.sub.low e.node))
    (λ e has below. has (held_below (c.args.sub.place + 1) (facts_in c.args.layers.now) (Sub c.args.sub.low e.other)
    (placed_up_to c.args.grounds.now c.args.layers.now c.loop-whole.layers c.args.sub.place (Sub c.args.sub.low c.args.sub.high) (Sub c.args.sub.low e.other) c.loop-whole.invariant.grown c.requires below)))
    c.loop-whole.invariant.each)

pub returns-clause-second : goal.returns-clause-second
returns-clause-second c =
    met_second c.args.grounds.now c.args.sub.place c.args.sub.low c.args.sub.high (facts_in c.loop-whole.layers)
    (at_grown c.args.grounds.now c.args.layers.now c.loop-whole.layers c.args.sub.place (Sub c.args.sub.low c.args.sub.high) c.loop-whole.invariant.grown c.requires)
    c.loop-whole.whole-index c.wholes-whole-items.result.now c.wholes-whole-items.ensures c.loop-whole-test.false
    (each_map c.wholes-whole-items.result.now c.loop-whole.whole-index (λ (e : Whole). Contains (facts_in c.args.layers.now) (Sub c.args.sub.low e.other) → Contains (facts_in c.loop-whole.layers) (Sub c.args.sub.low e.node))
    (λ (e : Whole). IsPlacedBelow (c.args.sub.place + 1) (facts_in c.loop-whole.layers) (Sub c.args.sub.low e.other) → Contains (facts_in c.loop-whole.layers) (Sub c.args.sub.low e.node))
    (λ e has below. has (held_below (c.args.sub.place + 1) (facts_in c.args.layers.now) (Sub c.args.sub.low e.other)
    (placed_up_to c.args.grounds.now c.args.layers.now c.loop-whole.layers c.args.sub.place (Sub c.args.sub.low c.args.sub.high) (Sub c.args.sub.low e.other) c.loop-whole.invariant.grown c.requires below)))
    c.loop-whole.invariant.each)
