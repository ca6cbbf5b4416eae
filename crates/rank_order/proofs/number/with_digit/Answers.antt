use Rattle.std.proofs.Common.{◌≤◌, ◌-◌, ◌^◌, inr, arith}
use Rattle.std.proofs.lemmas.Bool.Decides.{nat_tests}
use Rattle.rank_order.proofs.PowerLaws.{zero_behind, digit_below, too_long, below}
use Rattle.rank_order.proofs.number.with_digit.Goals as goal

pub returns-then-digit-eq48-clause-value : goal.returns-then-digit-eq48-clause-value
returns-then-digit-eq48-clause-value c = omega (arith, zero_behind c.args.number.significant c.args.number.zeros, c.if-digit-eq48.true)

pub returns-in_default-clause-fine : goal.returns-in_default-clause-fine
returns-in_default-clause-fine c =
    let small = digit_below c.args.digit c.requires.digit in
    let some : 1 ≤ c.args.digit - 48 = grind (arith, nat_tests) in
    too_long c.args.number.significant c.args.number.zeros (c.args.digit - 48) some small (omega (arith, below _ (10 ^ 36) c.in_default.ensures))

pub returns-then-significant-gt-MOST_UNITS-clause-fine : goal.returns-then-significant-gt-MOST_UNITS-clause-fine
returns-then-significant-gt-MOST_UNITS-clause-fine c =
    let small = digit_below c.args.digit c.requires.digit in
    let some : 1 ≤ c.args.digit - 48 = grind (arith, nat_tests) in
    too_long c.args.number.significant c.args.number.zeros (c.args.digit - 48) some small (omega (arith, c.in-Some.ensures.1))

pub returns-clause-value : goal.returns-clause-value
returns-clause-value c = omega (arith, c.in-Some.ensures.1, zero_behind c.args.number.significant c.args.number.zeros)

pub returns-clause-short : goal.returns-clause-short
returns-clause-short c =
    let small = digit_below c.args.digit c.requires.digit in
    let some : 1 ≤ c.args.digit - 48 = grind (arith, nat_tests) in
    record { most = c.if-significant-gt-MOST_UNITS.false; last = inr (λ e. omega (arith, e, c.in-Some.ensures.1, zero_behind c.args.number.significant c.args.number.zeros)) }
