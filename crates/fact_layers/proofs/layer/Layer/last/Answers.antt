use Rattle.std.proofs.Common.{◌-◌, ℕ}
use Rattle.std.specs.Arc.{arc_value}
use Rattle.fact_table.specs.Groups.{group_at}
use Rattle.fact_table.specs.Lists.{facts_of}
use Rattle.fact_table.specs.Places.{IsLastBelow}
use Rattle.fact_layers.proofs.Parts.{shifted_some}
use Rattle.fact_layers.proofs.layer.Layer.last.Goals as goal

pub returns-in-Some : goal.returns-in-Some
returns-in-Some c =
    let start : ℕ = c.self.inside.start in
    rw (← c.self.view_is) (shifted_some (IsLastBelow (group_at c.args.side) (facts_of (arc_value c.self.inside.facts).list) c.args.group (c.args.below - start)) start c.in-Some.place (rw c.deref.ensures at c.in-Some.ensures))

pub returns-in-None : goal.returns-in-None
returns-in-None c = rw (← c.self.view_is) (rw c.deref.ensures at c.in-None.ensures)
