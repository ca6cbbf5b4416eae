use Rattle.std.proofs.Common.{◌≡◌, get_or, Contains, refl, subst}
use Rattle.std.proofs.lemmas.List.Elements.{Contains-get_or}
use Rattle.std.proofs.lemmas.Option.{slice_get-get_or}
use Rattle.fact_table.specs.declared.types.Fact.TheVariants.{Sub, Link}
use Rattle.case_tables.specs.declared.types.Restriction.{Restriction}
use Rattle.rule_steps.specs.Growing.{facts_in}
use Rattle.rule_steps.specs.Answering.{IsAt}
use Rattle.rule_steps.proofs.GrowthLaws.{at_grown, has_stays, grown_more}
use Rattle.rule_steps.proofs.LoopLaws.{each_more, each_all}
use Rattle.rule_steps.proofs.pairs.fill.Goals as goal

pub fill_with-requires-clause-at : goal.fill_with-requires-clause-at
fill_with-requires-clause-at c =
    at_grown c.args.grounds.now c.args.layers.now c.loop-entry.layers c.args.link.place (Link c.args.link.from c.args.link.role c.args.link.into) c.loop-entry.invariant.grown c.requires.at

pub fill_with-requires-clause-filler : goal.fill_with-requires-clause-filler
fill_with-requires-clause-filler c =
    let d : Restriction = record { node = 0; role = 0; filler = 0 } in
    let here : Restriction = get_or c.restrictions_into-entry-items.result.now c.loop-entry.entry-index d in
    let held : Contains c.restrictions_into-entry-items.result.now here = Contains-get_or c.restrictions_into-entry-items.result.now c.loop-entry.entry-index d c.loop-entry-test.true in
    subst (λ high. IsAt c.args.filler (facts_in c.loop-entry.layers) (Sub c.args.link.into high)) ((c.restrictions_into-entry-items.ensures here).0 held).0
    (at_grown c.args.grounds.now c.args.layers.now c.loop-entry.layers c.args.filler (Sub c.args.link.into c.args.high) c.loop-entry.invariant.grown c.requires.filler)

pub loop-entry-preserved : goal.loop-entry-preserved
loop-entry-preserved c =
    let d : Restriction = record { node = 0; role = 0; filler = 0 } in
    let here : Restriction = get_or c.restrictions_into-entry-items.result.now c.loop-entry.entry-index d in
    record {
      grown = grown_more c.args.grounds.now c.args.layers.now c.loop-entry.layers c.fill_with.new.layers c.loop-entry.invariant.grown c.fill_with.ensures.grown;
      each = each_more c.restrictions_into-entry-items.result.now c.loop-entry.entry-index
          (λ (e : Restriction). e.role ≡ c.args.link.role → Contains (facts_in c.loop-entry.layers) (Sub c.args.link.from e.node))
          (λ (e : Restriction). e.role ≡ c.args.link.role → Contains (facts_in c.fill_with.new.layers) (Sub c.args.link.from e.node)) here
          (λ e has same. has_stays c.args.grounds.now c.loop-entry.layers c.fill_with.new.layers (Sub c.args.link.from e.node) c.fill_with.ensures.grown (has same))
          c.loop-entry.invariant.each (slice_get-get_or c.restrictions_into-entry-items.result.now c.loop-entry.entry-index d c.loop-entry-test.true) c.in_ok-fill_with.ensures.there;
    }

pub returns-clause-there : goal.returns-clause-there
returns-clause-there c node is =
    let entry : Restriction = record { node = node; role = c.args.link.role; filler = c.args.high } in
    each_all c.restrictions_into-entry-items.result.now c.loop-entry.entry-index (λ (e : Restriction). e.role ≡ c.args.link.role → Contains (facts_in c.loop-entry.layers) (Sub c.args.link.from e.node))
    entry c.loop-entry-test.false c.loop-entry.invariant.each ((c.restrictions_into-entry-items.ensures entry).1 (refl, is)) refl
