-- Numbers, digit by digit.
use Rattle.std.specs.Prelude.{ℕ, ◌+◌, ◌*◌, ◌-◌, ◌&&◌, nat_le, if◌then◌else◌, List, [], ◌∷◌, Option, Some, None}
use Rattle.byte_words.specs.Bytes.{is_digit}

-- the number that digits write after those of a number, unless it passes `most`
abbrev pub digits_after : ℕ → ℕ → List ℕ → Option ℕ
digits_after most number [] = Some number
digits_after most number (b ∷ bs) =
    if is_digit b && nat_le (number * 10 + (b - 48)) most
    then digits_after most (number * 10 + (b - 48)) bs else None
