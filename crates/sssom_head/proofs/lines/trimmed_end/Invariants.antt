use Rattle.std.proofs.Common.{◌≡◌, ◌≤◌, ◌+◌, cond, drop}
use Rattle.std.specs.Prelude.{◌==◌}
use Rattle.sssom_head.specs.Lines.{trimmed_end}
use Rattle.sssom_head.proofs.lines.trimmed_end.Given as goal

abbrev pub invariant-loop-i : goal.invariant-loop-i
invariant-loop-i l = record { within : l.end ≤ l.i; same : cond (trimmed_end (drop l.i l.text) == 0) l.end (l.i + trimmed_end (drop l.i l.text)) ≡ trimmed_end l.text }
