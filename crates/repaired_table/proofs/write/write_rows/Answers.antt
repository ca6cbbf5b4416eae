use Rattle.std.proofs.Common.{◌<◌, ◌+◌, ◌∙◌, ◌++◌, List, ℕ, length, drop, sym, ap, subst, arith, append_assoc}
use Rattle.repaired_table.specs.Repaired.{record_text, kept, rows_text}
use Rattle.repaired_table.specs.Inside.{HasWritten}
use Rattle.repaired_table.proofs.WriteLaws.{kept_at, left_at, all_done}
use Rattle.repaired_table.proofs.write.write_rows.Goals as goal
use Rattle.repaired_table.proofs.write.write_rows.Goals.{then-keep-place+in-Ok, else-keep-place}

pub loop-place-preserved : goal.loop-place-preserved
loop-place-preserved g c = λ text started.
    let before = c.loop-place.invariant text started in
    let keep = c.args.keep.now in
    let rows = c.args.rows.now in
    let place = c.loop-place.place in
    let in_rows : place < length rows = c.loop-place-test.true in
    let in_keep : place < length keep = omega (arith, c.requires, in_rows) in
    let after = rows_text (kept (drop (place + 1) keep) (drop (place + 1) rows)) in
    elim c.if-keep-place.branch [
      | then-keep-place+in-Ok w ↦
          let row = w.index-rows-place.result in (
            before.0 ++ record_text row.fields,
            rw w.writer-is (rw (← w.index-rows-place.is) at (w.in-Ok.ensures before.0 before.1)),
            append_assoc before.0 (record_text row.fields) after
                ∙ ap (λ (x : List ℕ). before.0 ++ x) (sym (kept_at keep rows place row in_rows in_keep w.index-rows-place.is w.if-keep-place.true))
                ∙ before.2,
          )
      | else-keep-place w ↦ (
        before.0,
        rw w.writer-is before.1,
        ap (λ (x : List ℕ). before.0 ++ x) (sym (left_at keep rows place in_rows in_keep w.if-keep-place.false)) ∙ before.2,
      )
    ]

pub returns : goal.returns
returns g c = λ text started.
    let all = c.loop-place.invariant text started in
    let done = all_done all.0 text c.args.keep.now (drop c.loop-place.place c.args.keep.now) c.args.rows.now c.loop-place.place c.loop-place-test.false all.2 in
    subst (λ (t : List ℕ). HasWritten g.W.Write.contents c.loop-place.writer t) done all.1
