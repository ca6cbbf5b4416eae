use Rattle.std.proofs.Common.{◌≡◌, drop}
use Rattle.text_names.proofs.PlaceLaws.{line_from, column_from}
use Rattle.text_names.proofs.place.place_of.Given as goal

abbrev pub invariant-loop-byte : goal.invariant-loop-byte
invariant-loop-byte l = record {
  line : line_from l.line (drop l.byte-index l.byte-items) ≡ line_from 1 l.byte-items;
  column : column_from l.column (drop l.byte-index l.byte-items) ≡ column_from 1 l.byte-items;
}
