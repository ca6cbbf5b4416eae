use Rattle.std.proofs.Common.{rules, ◌≡◌, ◌∙◌, ◌-◌, ◌<◌, ℕ, length, get_or, sym, ap}
use Rattle.fact_table.specs.declared.cells.Cell.{Cell}
use Rattle.fact_table.specs.declared.types.Fact.TheVariants.{Sub}
use Rattle.fact_table.specs.declared.types.FactGroup.{FactGroup}
use Rattle.fact_table.specs.Groups.{group_at}
use Rattle.fact_table.specs.Inside.Buckets.{head_of}
use Rattle.fact_table.specs.Inside.Cells.{link_at}
use Rattle.fact_table.proofs.CellWalks.{cell_begin, cell_begin_at}
use Rattle.fact_table.proofs.walks.begin.Goals as goal

pub returns-then-head-at : goal.returns-then-head-at
returns-then-head-at c =
    let cells = c.args.cells.now in
    let d : Cell = record { fact = Sub 0 0; same = 0; from = 0; into = 0 } in
    let head : FactGroup → ℕ = head_of (length c.args.heads.now - 1) in
    let low : c.args.below < length cells = search rules in
    let same : head (group_at c.args.side (get_or cells c.args.below d).fact) ≡ head c.args.group = sym (c.head.ensures.value ∙ ap head c.group_at.ensures) ∙ c.if-head-at.true ∙ c.head-at.ensures.value in
    let begun = cell_begin_at head (group_at c.args.side) (link_at c.args.side) cells c.args.heads.now c.args.group c.args.below c.link_at.result d c.requires.chained low same c.link_at.ensures in
    record { walked = begun.0; within = begun.1 }

pub returns : goal.returns
returns c =
    let head : FactGroup → ℕ = head_of (length c.args.heads.now - 1) in
    let begun = cell_begin head (group_at c.args.side) (link_at c.args.side) c.args.cells.now c.args.heads.now c.args.group c.args.below c.head-at.result c.requires.chained c.head-at.ensures.value in
    record { walked = begun.0; within = begun.1 }
