use Rattle.std.proofs.Common.{◌≡◌, ◌++◌, ℕ, List, drop}
use Rattle.repaired_table.specs.Repaired.{kept, rows_text}
use Rattle.repaired_table.specs.Inside.{HasWritten}
use Rattle.repaired_table.proofs.write.write_rows.Given as goal

abbrev pub invariant-loop-place : goal.invariant-loop-place
invariant-loop-place g l = (text : List ℕ) → HasWritten g.W.Write.contents l.fn.writer text → (done : List ℕ) × HasWritten g.W.Write.contents l.writer done
    × (done ++ rows_text (kept (drop l.place l.keep) (drop l.place l.rows)) ≡ text ++ rows_text (kept l.keep l.rows))
