use Rattle.std.proofs.Common.{◌<◌, ◌≤◌, length, arith}
use Rattle.std.proofs.lemmas.Result.{err_from_is_err_and}
use Rattle.evidence_text.proofs.RowLaws.{row_goes_on, row_fails, steps_fail, rows_done}
use Rattle.evidence_text.proofs.reading.rows.Goals as goal

pub returns-in_err-row : goal.returns-in_err-row
returns-in_err-row c =
    let p = err_from_is_err_and c.from_residual.result c.from_residual.ensures.1 in
    let more : length c.loop-alloc.removed.items < c.args.count = omega (arith, c.loop-alloc-test.true, c.len.ensures, c.loop-alloc.removed.ok) in
    rw (p.1, p.2) (row_fails c.in_err-row.field-0.0 c.loop-alloc.removed.items c.args.first c.args.count c.loop-alloc.before c.loop-alloc.at _ more c.in_err-row.ensures c.loop-alloc.invariant)

pub returns-in_err-steps : goal.returns-in_err-steps
returns-in_err-steps c =
    let p = err_from_is_err_and c.from_residual-in_err-steps.result c.from_residual-in_err-steps.ensures.1 in
    let more : length c.loop-alloc.removed.items < c.args.count = omega (arith, c.loop-alloc-test.true, c.len.ensures, c.loop-alloc.removed.ok) in
    rw (p.1, p.2) (steps_fail c.in_err-steps.field-0.0 c.loop-alloc.removed.items c.args.first c.args.count c.loop-alloc.before c.loop-alloc.at c.in_ok-row.next c.in_ok-row.row c.in_ok-row.steps _ more c.in_ok-row.ensures c.in_err-steps.ensures c.loop-alloc.invariant)

pub loop-alloc-preserved : goal.loop-alloc-preserved
loop-alloc-preserved c =
    let more : length c.loop-alloc.removed.items < c.args.count = omega (arith, c.loop-alloc-test.true, c.len.ensures, c.loop-alloc.removed.ok) in
    rw (c.in_ok-push.ensures.items, c.from_vec-steps.ensures) (row_goes_on c.loop-alloc.removed.items c.args.first c.args.count c.loop-alloc.before c.loop-alloc.at c.in_ok-row.next c.in_ok-steps.next c.in_ok-row.row c.in_ok-row.steps c.in_ok-steps.steps.items _
    more c.in_ok-row.ensures c.in_ok-steps.ensures c.loop-alloc.invariant)

pub returns : goal.returns
returns c =
    let past : c.args.count ≤ length c.loop-alloc.removed.items = omega (arith, c.loop-alloc-test.false, c.len.ensures, c.loop-alloc.removed.ok) in
    rows_done c.loop-alloc.removed.items c.args.first c.args.count c.loop-alloc.before c.loop-alloc.at _ past c.loop-alloc.invariant
