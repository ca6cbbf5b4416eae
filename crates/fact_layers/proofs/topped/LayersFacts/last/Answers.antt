use Rattle.std.proofs.Common.{arith}
use Rattle.fact_table.specs.Groups.{group_at}
use Rattle.fact_layers.proofs.Over.{low_last, top_last, base_last}
use Rattle.fact_layers.proofs.topped.LayersFacts.last.Goals as goal

pub returns-then-below-start : goal.returns-then-below-start
returns-then-below-start c =
    let l = c.self.inside in
    rw (← c.self.view_is) (low_last (group_at c.args.side) l.base l.top.list c.args.group c.args.below c.last.result (omega (arith, c.if-below-start.true, c.len-start.ensures.count)) c.last.ensures)

pub returns-in-Some : goal.returns-in-Some
returns-in-Some c =
    let l = c.self.inside in
    rw (← c.self.view_is) (top_last (group_at c.args.side) l.base l.top.list c.args.group c.args.below c.len-start.result c.in-Some.place c.len-start.ensures.count c.in-Some.ensures)

pub returns-in-None : goal.returns-in-None
returns-in-None c =
    let l = c.self.inside in
    rw (← c.self.view_is) (base_last (group_at c.args.side) l.base l.top.list c.args.group c.args.below c.len-start.result c.last-in-None.result c.len-start.ensures.count c.in-None.ensures c.last-in-None.ensures)
