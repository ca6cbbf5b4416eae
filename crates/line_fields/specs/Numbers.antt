-- Numbers in decimal.
use Rattle.std.specs.Prelude.{ℕ, ◌+◌, ◌*◌, ◌-◌, ◌^◌, ◌==◌, nat_lt, ◌&&◌, if◌then◌else◌, List, [], ◌∷◌, Option, Some, None}
use Rattle.byte_words.specs.Bytes.{is_digit}

-- the number that digits stand for after a number, if it stays below the bound
abbrev pub digits_from : ℕ → ℕ → List ℕ → Option ℕ
digits_from bound number [] = Some number
digits_from bound number (b ∷ bs) =
    if is_digit b && nat_lt (number * 10 + (b - 48)) bound
    then digits_from bound (number * 10 + (b - 48)) bs else None

-- only the number 0 begins with a zero
abbrev pub after_zero : List ℕ → Option ℕ
after_zero [] = Some 0
after_zero (b ∷ bs) = None

-- the number below 2 ^ 64 that is spelled so, in decimal without leading zeros
abbrev pub long_number : List ℕ → Option ℕ
long_number [] = None
long_number (b ∷ bs) = if b == 48 then after_zero bs else digits_from (2 ^ 64) 0 (b ∷ bs)

-- the number, if it is below 2 ^ 32
abbrev pub if_short : Option ℕ → Option ℕ
if_short None = None
if_short (Some n) = if nat_lt n (2 ^ 32) then Some n else None

abbrev pub short_number : List ℕ → Option ℕ
short_number field = if_short (long_number field)
