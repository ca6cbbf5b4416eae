use Rattle.std.proofs.Common.{◌≡◌, ◌^◌, drop}
use Rattle.line_fields.specs.Numbers.{digits_from}
use Rattle.line_fields.proofs.numbers.digits.Given as goal

abbrev pub invariant-loop-byte : goal.invariant-loop-byte
invariant-loop-byte l =
    digits_from (2 ^ 64) l.number (drop l.byte-index l.field) ≡ digits_from (2 ^ 64) 0 l.field
