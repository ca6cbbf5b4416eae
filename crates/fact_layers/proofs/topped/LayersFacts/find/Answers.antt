use Rattle.fact_layers.proofs.Over.{top_found, base_found}
use Rattle.fact_layers.proofs.topped.LayersFacts.find.Goals as goal

pub returns-in-Some : goal.returns-in-Some
returns-in-Some c =
    let l = c.self.inside in
    rw (← c.self.view_is) (top_found l.base l.top.list c.args.fact c.len-start.result c.in-Some.place c.len-start.ensures.count c.in-Some.ensures)

pub returns-in-None : goal.returns-in-None
returns-in-None c =
    let l = c.self.inside in
    rw (← c.self.view_is) (base_found l.base l.top.list c.args.fact c.find-in-None.result c.in-None.ensures c.find-in-None.ensures)
