use Rattle.std.proofs.Common.{arith, ◌∙◌, ◌<◌, sym}
use Rattle.std.proofs.lemmas.List.{length-map}
use Rattle.std.proofs.lemmas.Option.{slice_get_within}
use Rattle.fact_table.specs.Groups.{node_at}
use Rattle.fact_table.specs.Lists.{facts_of}
use Rattle.fact_table.specs.declared.types.Proved.{Proved}
use Rattle.fact_table.proofs.Places.{fact_at, clear_none, clear_more}
use Rattle.fact_table.proofs.scan.next_past.Goals as goal

pub loop-place-init : goal.loop-place-init
loop-place-init g c = clear_none (node_at c.args.side) (facts_of (g.F.FactsByPlace.facts c.args.facts.now)) c.args.node c.place_past-start.result

pub returns-then-node_at-node : goal.returns-then-node_at-node
returns-then-node_at-node g c =
    let items = g.F.FactsByPlace.facts c.args.facts.now in
    let low : c.loop-place.place < c.len-place-end.result = c.loop-place-test.true in (
      c.place_past-start.ensures.least c.loop-place.place c.loop-place.auto.place (omega (arith, low, c.len-place-end.type_inv)),
      (c.at.result.fact, fact_at items c.loop-place.place c.at.result c.at.ensures, sym c.node_at.ensures ∙ c.if-node_at-node.true),
      λ p above below has. c.loop-place.invariant p (omega (arith, above, c.place_past-start.ensures.most)) below has,
    )

pub loop-place-preserved : goal.loop-place-preserved
loop-place-preserved g c =
    let items = g.F.FactsByPlace.facts c.args.facts.now in
    clear_more (node_at c.args.side) (facts_of items) c.args.node c.place_past-start.result c.loop-place.place c.at.result.fact c.loop-place.invariant (fact_at items c.loop-place.place c.at.result c.at.ensures) (λ same. c.if-node_at-node.false (c.node_at.ensures ∙ same))

pub returns : goal.returns
returns g c p above has =
    let items = g.F.FactsByPlace.facts c.args.facts.now in
    c.loop-place.invariant p (omega (arith, above, c.place_past-start.ensures.most)) (omega (arith, slice_get_within (facts_of items) p has.0 has.1, length-map items (λ (x : Proved). x.fact), c.len-place-end.ensures.count, c.loop-place-test.false)) has
