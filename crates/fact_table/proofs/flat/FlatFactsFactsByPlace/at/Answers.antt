use Rattle.std.proofs.Common.{rules, ◌<◌, length, arith}
use Rattle.fact_table.specs.Inside.Cells.{proved_of}
use Rattle.fact_table.proofs.Listed.{proved_len, proved_at}
use Rattle.fact_table.proofs.flat.FlatFactsFactsByPlace.at.Goals as goal

pub index-requires : goal.index-requires
index-requires c =
    let t = c.self.inside in
    let low : c.args.place < length (proved_of t.cells.items t.reasons.items) = search rules in
    let lower : c.args.place < length t.cells.items = omega (arith, low, proved_len t.cells.items t.reasons.items c.self.invariant.each) in
    search rules

pub index-requires-2 : goal.index-requires-2
index-requires-2 c =
    let t = c.self.inside in
    let low : c.args.place < length (proved_of t.cells.items t.reasons.items) = search rules in
    let lower : c.args.place < length t.reasons.items = omega (arith, low, c.self.invariant.each, proved_len t.cells.items t.reasons.items c.self.invariant.each) in
    search rules

pub returns : goal.returns
returns c =
    let t = c.self.inside in
    let low : c.args.place < length (proved_of t.cells.items t.reasons.items) = search rules in
    let lower : c.args.place < length t.cells.items = omega (arith, low, proved_len t.cells.items t.reasons.items c.self.invariant.each) in
    rw (← c.self.view_is, c.index.ensures, c.index-2.ensures) (proved_at t.cells.items t.reasons.items c.args.place c.index.result.now c.index-2.result.now c.self.invariant.each lower)
