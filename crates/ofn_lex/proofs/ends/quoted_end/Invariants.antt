use Rattle.std.proofs.Common.{◌≡◌, ◌+◌, cond, drop}
use Rattle.ofn_lex.specs.Ends.{quoted_end, escape_end}
use Rattle.ofn_lex.proofs.ends.quoted_end.Given as goal

abbrev pub invariant-loop-byte : goal.invariant-loop-byte
invariant-loop-byte l = record {
  offset : l.end ≡ l.at + l.byte-index;
  same : cond l.in_escape (escape_end l.end (drop l.byte-index l.bytes)) (quoted_end l.end (drop l.byte-index l.bytes)) ≡ quoted_end l.at l.bytes;
}
