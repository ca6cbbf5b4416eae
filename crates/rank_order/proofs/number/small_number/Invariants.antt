use Rattle.std.proofs.Common.{◌≡◌, ◌<◌, ◌+◌, ◌*◌, ◌^◌, length, drop}
use Rattle.rank_order.specs.Decimal.{AreDigits, digits_value}
use Rattle.rank_order.proofs.number.small_number.Given as goal

abbrev pub invariant-loop-digit : goal.invariant-loop-digit
invariant-loop-digit l = record {
  value : l.number * 10 ^ length (drop l.digit-index l.digits) + digits_value (drop l.digit-index l.digits) ≡ digits_value l.digits;
  digits : AreDigits (drop l.digit-index l.digits);
  small : l.number < 10 ^ 20;
}
