use Rattle.std.proofs.Common.{◌≡◌, ◌+◌, drop}
use Rattle.sssom_head.specs.Lines.{first_line_end}
use Rattle.sssom_head.proofs.lines.line_end.Given as goal

abbrev pub invariant-loop-byte : goal.invariant-loop-byte
invariant-loop-byte l = record { offset : l.end ≡ l.byte-index; same : l.end + first_line_end (drop l.byte-index l.text) ≡ first_line_end l.text }
