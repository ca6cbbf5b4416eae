use Rattle.std.proofs.Common.{rules, ◌≡◌, ◌∙◌, ◌<◌, ℕ, length, sym, subst}
use Rattle.fact_table.specs.Lists.{IsAbsent, facts_of}
use Rattle.fact_table.specs.Inside.Cells.{IsPut, cell_facts, proved_of}
use Rattle.fact_table.proofs.Listed.{proved_len, proved_facts, proved_more}
use Rattle.fact_table.proofs.Tables.{table_more}
use Rattle.fact_table.proofs.flat.FlatFacts.insert.Goals as goal

pub invariant_of-self : goal.invariant_of-self
invariant_of-self c =
    let t = c.self.inside in
    let item = c.args.item in
    let some : 0 < t.spare = search rules in
    let place : c.len-place.result ≡ length t.cells.items = search rules in
    let absent : IsAbsent (facts_of (proved_of t.cells.items t.reasons.items)) item.fact = search rules in
    let new : IsAbsent (cell_facts t.cells.items) item.fact = rw (proved_facts t.cells.items t.reasons.items c.self.invariant.each) at absent in
    let P : ℕ → Type 0 = λ n. IsPut item.fact n c.put_cell-cell.result t.heads c.put_cell-cell.new.heads in
    let put : IsPut item.fact (length t.cells.items) c.put_cell-cell.result t.heads c.put_cell-cell.new.heads = subst P place c.put_cell-cell.ensures in
    rw (c.push_reserved.ensures.items, c.push_reserved-2.ensures.items, c.push_reserved.ensures.capacity, c.push_reserved-2.ensures.capacity)
    (table_more t.cells.items t.reasons.items t.heads c.put_cell-cell.new.heads t.spare _ _ item.fact c.put_cell-cell.result item.reason c.self.invariant new some put)

pub returns-clause-list : goal.returns-clause-list
returns-clause-list c =
    let t = c.self.inside in
    rw (c.push_reserved.ensures.items, c.push_reserved-2.ensures.items, ← c.self.view_is) (proved_more t.cells.items t.reasons.items c.put_cell-cell.result c.args.item c.self.invariant.each c.put_cell-cell.ensures.fact_is)

pub returns-clause-place : goal.returns-clause-place
returns-clause-place c =
    let t = c.self.inside in
    let place : c.len-place.result ≡ length t.cells.items = search rules in
    rw (← c.self.view_is) (place ∙ sym (proved_len t.cells.items t.reasons.items c.self.invariant.each))
