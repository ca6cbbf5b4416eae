use Rattle.std.proofs.Common.{rules, ◌≡◌, ◌∙◌, ◌-◌, ◌≤◌, ℕ, length, take, ap, arith}
use Rattle.fact_table.specs.Inside.Cells.{proved_of}
use Rattle.fact_table.proofs.Listed.{proved_take, proved_len}
use Rattle.fact_table.proofs.Tables.{table_cut}
use Rattle.fact_table.proofs.flat.FlatFacts.cut.Goals as goal

pub overflow_sub-gone : goal.overflow_sub-gone
overflow_sub-gone c =
    let t = c.self.inside in
    let low : c.args.len ≤ length (proved_of t.cells.items t.reasons.items) = search rules in
    let lower : c.args.len ≤ length t.cells.items = omega (arith, low, proved_len t.cells.items t.reasons.items c.self.invariant.each) in
    search rules

pub invariant_of-self : goal.invariant_of-self
invariant_of-self c =
    let t = c.self.inside in
    let e = c.shorten.ensures in
    let low : c.args.len ≤ length (proved_of t.cells.items t.reasons.items) = search rules in
    let lower : c.args.len ≤ length t.cells.items = omega (arith, low, proved_len t.cells.items t.reasons.items c.self.invariant.each) in
    let long : c.len.result ≡ length t.cells.items = search rules in
    let left : c.args.len ≡ length t.cells.items - (c.len.result - c.args.len) = omega arith in
    rw (e.capacity, c.truncate.ensures.capacity)
    (table_cut t.cells.items c.shorten.new.cells.items t.reasons.items c.truncate.new.self.items t.heads c.shorten.new.heads t.spare (c.len.result - c.args.len) _ _ c.self.invariant e.chained e.many e.cells
    (c.truncate.ensures.items ∙ ap (λ (n : ℕ). take n t.reasons.items) left) (omega arith))

pub returns-clause-list : goal.returns-clause-list
returns-clause-list c =
    let t = c.self.inside in
    let low : c.args.len ≤ length (proved_of t.cells.items t.reasons.items) = search rules in
    let lower : c.args.len ≤ length t.cells.items = omega (arith, low, proved_len t.cells.items t.reasons.items c.self.invariant.each) in
    let long : c.len.result ≡ length t.cells.items = search rules in
    let left : length t.cells.items - (c.len.result - c.args.len) ≡ c.args.len = omega arith in
    rw (← c.self.view_is, c.truncate.ensures.items, c.shorten.ensures.cells, left) (proved_take c.args.len t.cells.items t.reasons.items)

pub returns-clause-spare : goal.returns-clause-spare
returns-clause-spare c =
    let t = c.self.inside in
    let low : c.args.len ≤ length (proved_of t.cells.items t.reasons.items) = search rules in
    let whole = proved_len t.cells.items t.reasons.items c.self.invariant.each in
    let long : c.len.result ≡ length t.cells.items = search rules in
    rw (← c.self.view_is) (omega (arith, low, whole, long))
