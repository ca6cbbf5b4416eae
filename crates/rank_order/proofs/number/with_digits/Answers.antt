use Rattle.std.proofs.Common.{arith}
use Rattle.rank_order.specs.Inside.Scale.{value_of}
use Rattle.rank_order.proofs.PowerLaws.{digits_step, digits_at, fine_step}
use Rattle.rank_order.proofs.number.with_digits.Goals as goal

pub returns-in_default-clause-fine : goal.returns-in_default-clause-fine
returns-in_default-clause-fine c =
    fine_step (value_of c.loop-digit.whole) _ c.loop-digit.digit-index c.args.digits.now c.loop-digit-test.true c.loop-digit.invariant.digits c.loop-digit.invariant.value c.in_default.ensures.fine

pub loop-digit-preserved : goal.loop-digit-preserved
loop-digit-preserved c = record {
  value = digits_step (value_of c.loop-digit.whole) (value_of c.in-Some.more) _ c.loop-digit.digit-index c.args.digits.now c.loop-digit-test.true c.in-Some.ensures.value c.loop-digit.invariant.value;
  digits = (digits_at c.loop-digit.digit-index c.args.digits.now c.loop-digit-test.true c.loop-digit.invariant.digits).1;
  short = c.in-Some.ensures.short;
  zeros = omega (arith, c.in-Some.ensures.zeros, c.loop-digit.invariant.zeros);
}
