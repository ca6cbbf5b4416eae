use Rattle.std.proofs.Common.{◌∙◌, ◌-◌, ◌<◌, length, map, sym, arith}
use Rattle.std.proofs.lemmas.Bool.{eqb-true}
use Rattle.fact_table.specs.declared.cells.Cell.{Cell}
use Rattle.fact_table.specs.declared.types.Fact.TheVariants.{Sub}
use Rattle.fact_table.specs.Groups.{group_at}
use Rattle.fact_table.specs.Inside.Buckets.{head_of, head_at}
use Rattle.fact_table.specs.Inside.Chains.{IsWalked}
use Rattle.fact_table.specs.Inside.Cells.{cell_facts, link_at}
use Rattle.fact_table.proofs.CellWalks.{cell_step, headless, walked_out, walked_to}
use Rattle.fact_table.proofs.walks.walk.Goals as goal

pub returns-then-is_empty : goal.returns-then-is_empty
returns-then-is_empty c p above under has =
    headless (head_at c.args.side (length c.args.heads.now - 1)) (cell_facts c.args.cells.now) (map (link_at c.args.side) c.args.cells.now) c.args.heads.now p has.0 c.requires (eqb-true (length c.args.heads.now) 0 (sym c.is_empty.ensures ∙ c.if-is_empty.true)) has.1

pub returns-then-is_wanted : goal.returns-then-is_wanted
returns-then-is_wanted c =
    let d : Cell = record { fact = Sub 0 0; same = 0; from = 0; into = 0 } in
    let wanted = c.is_wanted.ensures.yes c.if-is_wanted.true in
    walked_to (head_of (length c.args.heads.now - 1)) (group_at c.args.side) c.args.cells.now c.args.group c.args.below c.loop-past.past d c.loop-past.invariant.walked c.loop-past-test.true c.loop-past.invariant.within wanted.0 wanted.1

-- a step down the group's chain
step : (c : goal.After-link_at-past) → (IsWalked (head_of (length c.args.heads.now - 1)) (group_at c.args.side) (cell_facts c.args.cells.now) c.args.group c.args.below c.link_at-past.result) × (c.link_at-past.result < c.loop-past.past)
step c =
    let d : Cell = record { fact = Sub 0 0; same = 0; from = 0; into = 0 } in
    cell_step (head_of (length c.args.heads.now - 1)) (group_at c.args.side) (link_at c.args.side) c.args.cells.now c.args.heads.now c.args.group c.args.below c.loop-past.past c.link_at-past.result d c.requires c.loop-past.invariant.walked c.loop-past-test.true c.loop-past.invariant.within
    (c.is_wanted.ensures.no c.if-is_wanted.false) c.link_at-past.ensures

pub loop-past-smaller : goal.loop-past-smaller
loop-past-smaller c = (step c).1

pub loop-past-preserved : goal.loop-past-preserved
loop-past-preserved c = record { walked = (step c).0; within = omega (arith, (step c).1, c.loop-past.invariant.within) }

pub returns : goal.returns
returns c = walked_out (head_of (length c.args.heads.now - 1)) (group_at c.args.side) c.args.cells.now c.args.group c.args.below c.loop-past.past c.loop-past.invariant.walked c.loop-past-test.false
