use Rattle.std.proofs.Common.{◌≡◌, ◌+◌, ◌≤◌, length}
use Rattle.sssom_head.specs.Lines.{header_lines, bytes_in, contents_of}
use Rattle.sssom_head.specs.HeaderSteps.{at_place, run}
use Rattle.sssom_head.specs.Heads.{read}
use Rattle.sssom_head.proofs.head.read_lines.Given as goal

abbrev pub invariant-loop-first : goal.invariant-loop-first
invariant-loop-first l = record {
  same : run (l.line + 1) (at_place l.place l.prefixes) (contents_of l.rest) ≡ read l.bytes;
  counted : bytes_in (header_lines l.rest) + length l.bytes ≡ bytes_in (header_lines l.bytes) + length l.rest;
  within : l.line + length l.rest ≤ length l.bytes;
}

abbrev pub decreases-loop-first : goal.decreases-loop-first
decreases-loop-first l = length l.rest
