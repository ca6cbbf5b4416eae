use Rattle.fact_table.proofs.Listed.{proved_facts}
use Rattle.fact_table.proofs.flat.FlatFactsFacts.find.Goals as goal

pub returns : goal.returns
returns c =
    let same = proved_facts c.self.inside.cells.items c.self.inside.reasons.items c.self.invariant.each in
    rw (← c.self.view_is, same) (rw c.as_slice.ensures.value at c.seek.ensures)
