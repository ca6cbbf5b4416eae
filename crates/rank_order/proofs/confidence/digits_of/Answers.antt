use Rattle.std.proofs.Common.{◌≡◌, ◌+◌, ◌*◌, ◌^◌, length, arith, subst}
use Rattle.rank_order.specs.Decimal.{digits_value}
use Rattle.rank_order.specs.Inside.Scale.{IsTooFine}
use Rattle.rank_order.proofs.PowerLaws.{fine_digits}
use Rattle.rank_order.proofs.confidence.digits_of.Goals as goal

pub returns-in-None-clause-fine : goal.returns-in-None-clause-fine
returns-in-None-clause-fine c =
    let whole = c.args.whole.now in
    let alone : 0 * 10 ^ 0 * 10 ^ length whole + digits_value whole ≡ digits_value whole = omega arith in
    fine_digits (digits_value whole) c.args.fraction.now c.requires.fraction (subst IsTooFine alone c.in-None.ensures.fine)
