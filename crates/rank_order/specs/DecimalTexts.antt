-- The parts of a decimal number, read from the front of its text.
use Rattle.std.specs.Prelude.{ℕ, Bool, true, false, ◌&&◌, ◌==◌, if◌then◌else◌, List, [], ◌∷◌, length, Option, Some, None}
use Rattle.std.specs.List.{list_all}
use Rattle.rank_order.specs.Decimal.{is_digit, is_exponent_letter, Sign, Exponent, Decimal, fraction_digits}

-- the longest front of digits, and what stands after it
abbrev pub front_digits : List ℕ → List ℕ
front_digits [] = []
front_digits (b ∷ bs) = if is_digit b then b ∷ front_digits bs else []

abbrev pub past_digits : List ℕ → List ℕ
past_digits [] = []
past_digits (b ∷ bs) = if is_digit b then past_digits bs else b ∷ bs

-- the digits after a point, where one comes first, and what stands after them
abbrev pub fraction_in : List ℕ → Option (List ℕ)
fraction_in [] = None
fraction_in (b ∷ bs) = if b == 46 then Some (front_digits bs) else None

abbrev pub past_fraction : List ℕ → List ℕ
past_fraction [] = []
past_fraction (b ∷ bs) = if b == 46 then past_digits bs else b ∷ bs

abbrev pub are_digits : List ℕ → Bool
are_digits bytes = list_all is_digit bytes

abbrev pub is_some_list : List ℕ → Bool
is_some_list [] = false
is_some_list (b ∷ bs) = true

-- an exponent with these digits, if they are digits and not none
abbrev pub exponent_with : ℕ → Sign → List ℕ → Option (Option Exponent)
exponent_with letter sign digits =
    if is_some_list digits && are_digits digits then Some (Some (record { letter = letter; sign = sign; digits = digits })) else None

abbrev pub signed_in : ℕ → List ℕ → Option (Option Exponent)
signed_in letter [] = None
signed_in letter (b ∷ bs) =
    if b == 43 then exponent_with letter Sign.plus bs else
    if b == 45 then exponent_with letter Sign.minus bs else exponent_with letter Sign.unsigned (b ∷ bs)

-- the exponent that is all of the text, where it is one, or no exponent where the text is empty
abbrev pub exponent_in : List ℕ → Option (Option Exponent)
exponent_in [] = Some None
exponent_in (b ∷ bs) = if is_exponent_letter b then signed_in b bs else None

abbrev pub decimal_with : List ℕ → Option (List ℕ) → Option (Option Exponent) → Option Decimal
decimal_with whole fraction None = None
decimal_with whole fraction (Some exponent) =
    if length whole == 0 && length (fraction_digits fraction) == 0 then None else Some (record { whole = whole; fraction = fraction; exponent = exponent })

-- the decimal number that is all of the text
abbrev pub decimal_of : List ℕ → Option Decimal
decimal_of text = decimal_with (front_digits text) (fraction_in (past_digits text)) (exponent_in (past_fraction (past_digits text)))
