use Rattle.fact_table.proofs.Listed.{proved_facts}
use Rattle.fact_table.proofs.flat.FlatFactsFacts.last.Goals as goal

pub returns-in-From : goal.returns-in-From
returns-in-From c =
    let same = proved_facts c.self.inside.cells.items c.self.inside.reasons.items c.self.invariant.each in
    rw (c.in-From.is, ← c.self.view_is, same) (rw c.as_slice.ensures.value at c.walk.ensures)

pub returns-in-Into : goal.returns-in-Into
returns-in-Into c =
    let same = proved_facts c.self.inside.cells.items c.self.inside.reasons.items c.self.invariant.each in
    rw (c.in-Into.is, ← c.self.view_is, same) (rw c.as_slice-in-Into.ensures.value at c.walk-in-Into.ensures)
