use Rattle.std.proofs.Common.{rules, ◌≡◌, ◌+◌, ◌-◌, ◌<◌, ◌≤◌, ◌^◌, length, arith}
use Rattle.std.specs.Vec.{vec_capacity}
use Rattle.fact_table.proofs.Listed.{proved_alike}
use Rattle.fact_table.proofs.Tables.{table_with}
use Rattle.fact_table.proofs.flat.FlatFacts.reserve.Goals as goal

pub invariant_of-self-2 : goal.invariant_of-self-2
invariant_of-self-2 c =
    let t = c.self.inside in
    let w = c.widen.ensures in
    let long : c.len-len.result ≡ length t.cells.items = search rules in
    let room = c.min-room.result - c.len-len.result in
    let same = rw c.reserve.ensures.items at w.facts in
    let cells_fit : length t.cells.items + room ≤ vec_capacity c.reserve.new.self = search rules in
    let reasons_fit : length t.cells.items + room ≤ vec_capacity c.reserve-2.new.self = omega (arith, c.self.invariant.each, c.in_ok-reserve-2.ensures.ok, c.reserve-2.ensures.len) in
    let small : length t.cells.items + room < 2 ^ 32 = omega (arith, long, c.self.invariant.small, c.max.ensures, c.min-room.ensures, c.if-more-len.false) in
    rw (c.reserve-2.ensures.items, w.capacity)
    (table_with t.cells.items c.widen.new.cells.items t.reasons.items t.heads c.widen.new.heads t.spare room _ _ _ _ c.self.invariant w.chained same cells_fit reasons_fit small (λ _. c.in_ok-widen.ensures.ok))

pub returns-in_err-widen-clause-list : goal.returns-in_err-widen-clause-list
returns-in_err-widen-clause-list c =
    let t = c.self.inside in
    let same = rw c.reserve.ensures.items at c.widen.ensures.facts in
    rw (← c.self.view_is, c.reserve-2.ensures.items) (proved_alike c.widen.new.cells.items t.cells.items t.reasons.items same)

pub returns-clause-list : goal.returns-clause-list
returns-clause-list c =
    let t = c.self.inside in
    let same = rw c.reserve.ensures.items at c.widen.ensures.facts in
    rw (← c.self.view_is, c.reserve-2.ensures.items) (proved_alike c.widen.new.cells.items t.cells.items t.reasons.items same)
