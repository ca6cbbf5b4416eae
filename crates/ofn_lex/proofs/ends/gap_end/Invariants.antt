use Rattle.std.proofs.Common.{◌≡◌, ◌+◌, cond, drop}
use Rattle.ofn_lex.specs.Ends.{gap_end, comment_end}
use Rattle.ofn_lex.proofs.ends.gap_end.Given as goal

abbrev pub invariant-loop-byte : goal.invariant-loop-byte
invariant-loop-byte l = record {
  offset : l.end ≡ l.at + l.byte-index;
  same : cond l.in_comment (comment_end l.end (drop l.byte-index l.bytes)) (gap_end l.end (drop l.byte-index l.bytes)) ≡ gap_end l.at l.bytes;
}
