use Rattle.std.proofs.Common.{◌∙◌, ◌-◌, ◌<◌, ℕ, length, map, sym, ap, Some, arith}
use Rattle.std.proofs.lemmas.Bool.{eqb-true}
use Rattle.fact_table.specs.declared.cells.Cell.{Cell}
use Rattle.fact_table.specs.declared.types.Fact.{Fact}
use Rattle.fact_table.specs.declared.types.Fact.TheVariants.{Sub}
use Rattle.fact_table.specs.Inside.Buckets.{bucket_of}
use Rattle.fact_table.specs.Inside.Chains.{IsWalked}
use Rattle.fact_table.specs.Inside.Cells.{cell_facts, same_link}
use Rattle.fact_table.proofs.CellChains.{cell_fact}
use Rattle.fact_table.proofs.CellWalks.{cell_begin, cell_step, headless, walked_past}
use Rattle.fact_table.proofs.walks.seek.Goals as goal

pub returns-then-is_empty : goal.returns-then-is_empty
returns-then-is_empty c p at =
    let head : Fact → ℕ = bucket_of (length c.args.heads.now - 1) in
    headless head (cell_facts c.args.cells.now) (map same_link c.args.cells.now) c.args.heads.now p c.args.fact c.requires (eqb-true (length c.args.heads.now) 0 (sym c.is_empty.ensures ∙ c.if-is_empty.true)) at

pub loop-past-init : goal.loop-past-init
loop-past-init c =
    let begun = cell_begin (bucket_of (length c.args.heads.now - 1)) (λ (f : Fact). f) same_link c.args.cells.now c.args.heads.now c.args.fact (length c.args.cells.now) c.bucket.result c.requires c.bucket.ensures.value in
    record { walked = begun.0; within = begun.1 }

pub returns-then-has_fact : goal.returns-then-has_fact
returns-then-has_fact c =
    let cells = c.args.cells.now in
    let d : Cell = record { fact = Sub 0 0; same = 0; from = 0; into = 0 } in
    cell_fact cells (c.loop-past.past - 1) d (omega (arith, c.loop-past-test.true, c.loop-past.invariant.within)) ∙ ap Some (c.has_fact.ensures.yes c.if-has_fact.true)

-- a step down the bucket's chain
step : (c : goal.After-same_link-past) → (IsWalked (bucket_of (length c.args.heads.now - 1)) (λ (f : Fact). f) (cell_facts c.args.cells.now) c.args.fact (length c.args.cells.now) c.same_link-past.result) × (c.same_link-past.result < c.loop-past.past)
step c =
    let d : Cell = record { fact = Sub 0 0; same = 0; from = 0; into = 0 } in
    cell_step (bucket_of (length c.args.heads.now - 1)) (λ (f : Fact). f) same_link c.args.cells.now c.args.heads.now c.args.fact (length c.args.cells.now) c.loop-past.past c.same_link-past.result d c.requires c.loop-past.invariant.walked c.loop-past-test.true c.loop-past.invariant.within
    (λ under. c.has_fact.ensures.no c.if-has_fact.false) c.same_link-past.ensures

pub loop-past-smaller : goal.loop-past-smaller
loop-past-smaller c = (step c).1

pub loop-past-preserved : goal.loop-past-preserved
loop-past-preserved c = record { walked = (step c).0; within = omega (arith, (step c).1, c.loop-past.invariant.within) }

pub returns : goal.returns
returns c = walked_past (bucket_of (length c.args.heads.now - 1)) c.args.cells.now c.args.fact c.loop-past.past c.loop-past.invariant.walked c.loop-past-test.false
