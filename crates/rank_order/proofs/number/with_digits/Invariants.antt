use Rattle.std.proofs.Common.{◌≡◌, ◌≤◌, ◌+◌, ◌*◌, ◌^◌, length, drop}
use Rattle.rank_order.specs.Decimal.{AreDigits, digits_value}
use Rattle.rank_order.specs.Inside.Scale.{IsShort, value_of}
use Rattle.rank_order.proofs.number.with_digits.Given as goal

abbrev pub invariant-loop-digit : goal.invariant-loop-digit
invariant-loop-digit l = record {
  value : value_of l.whole * 10 ^ length (drop l.digit-index l.digits) + digits_value (drop l.digit-index l.digits) ≡ value_of l.fn.number * 10 ^ length l.digits + digits_value l.digits;
  digits : AreDigits (drop l.digit-index l.digits);
  short : IsShort l.whole;
  zeros : l.whole.zeros ≤ l.fn.number.zeros + l.digit-index;
}
