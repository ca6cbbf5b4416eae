use Rattle.std.proofs.Common.{take}
use Rattle.text_names.proofs.PlaceLaws.{line_at_end, column_at_end}
use Rattle.text_names.proofs.place.place_of.Goals as goal

pub returns : goal.returns
returns c =
    let before = take c.args.offset c.args.bytes.now in
    let line = line_at_end before c.loop-byte.line c.loop-byte.byte-index c.requires.utf8 c.loop-byte-test.false c.loop-byte.invariant.line in
    let column = column_at_end before c.loop-byte.column c.loop-byte.byte-index c.requires.utf8 c.loop-byte-test.false c.loop-byte.invariant.column in
    λ i. record { line = line i; column = column i }
