use Rattle.std.proofs.Common.{arith}
use Rattle.rank_order.proofs.PowerLaws.{digits_step, digits_at, no_smaller}
use Rattle.rank_order.proofs.number.small_number.Goals as goal

pub returns-then-number-ge-SMALL_BOUND : goal.returns-then-number-ge-SMALL_BOUND
returns-then-number-ge-SMALL_BOUND c =
    λ small. omega (arith, small, no_smaller c.loop-digit.number _ c.loop-digit.digit-index c.args.digits.now c.loop-digit-test.true c.loop-digit.invariant.value)

pub loop-digit-preserved : goal.loop-digit-preserved
loop-digit-preserved c = record {
  value = digits_step c.loop-digit.number _ _ c.loop-digit.digit-index c.args.digits.now c.loop-digit-test.true (omega arith) c.loop-digit.invariant.value;
  digits = (digits_at c.loop-digit.digit-index c.args.digits.now c.loop-digit-test.true c.loop-digit.invariant.digits).1;
  small = c.if-number-ge-SMALL_BOUND.false;
}
