use Rattle.std.proofs.Common.{rules, ◌≡◌, length}
use Rattle.fact_table.proofs.Listed.{proved_len, proved_facts}
use Rattle.fact_table.proofs.flat.FlatFactsFactsByPlace.len.Goals as goal

pub returns-clause-count : goal.returns-clause-count
returns-clause-count c =
    let same = proved_len c.self.inside.cells.items c.self.inside.reasons.items c.self.invariant.each in
    let long : c.len.result ≡ length c.self.inside.cells.items = search rules in
    rw (← c.self.view_is, long, same)

pub returns-clause-distinct : goal.returns-clause-distinct
returns-clause-distinct c =
    let same = proved_facts c.self.inside.cells.items c.self.inside.reasons.items c.self.invariant.each in
    rw (← c.self.view_is, same) c.self.invariant.distinct

pub returns-clause-small : goal.returns-clause-small
returns-clause-small c =
    let same = proved_len c.self.inside.cells.items c.self.inside.reasons.items c.self.invariant.each in
    rw (← c.self.view_is, same) c.self.invariant.small
