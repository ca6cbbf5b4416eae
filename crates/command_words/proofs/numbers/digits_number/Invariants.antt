use Rattle.std.proofs.Common.{◌≡◌, ◌≤◌, drop}
use Rattle.command_words.specs.Inside.Numbers.{digits_after}
use Rattle.command_words.proofs.numbers.digits_number.Given as goal

-- the number so far is not too great, and goes on with the digits that are left
abbrev pub invariant-loop-digit : goal.invariant-loop-digit
invariant-loop-digit l =
    (l.number ≤ l.most) × (digits_after l.most l.number (drop l.digit-index l.digits) ≡ digits_after l.most 0 l.digits)
