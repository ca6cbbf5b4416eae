use Rattle.std.proofs.Common.{◌≡◌, ◌+◌, drop}
use Rattle.ofn_lex.specs.Ends.{iri_end}
use Rattle.ofn_lex.proofs.ends.iri_end.Given as goal

abbrev pub invariant-loop-byte : goal.invariant-loop-byte
invariant-loop-byte l = record { offset : l.end ≡ l.at + l.byte-index; same : iri_end l.end (drop l.byte-index l.bytes) ≡ iri_end l.at l.bytes }
