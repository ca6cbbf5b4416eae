-- Decimal numbers as texts, and their values.
use Rattle.std.specs.Prelude.{◌≡◌, ◌≤◌, ℕ, ◌+◌, ◌-◌, ◌*◌, ◌^◌, Bool, true, false, if◌then◌else◌, List, [], ◌∷◌, ◌++◌, length, codes, Option, Some, None, ⊤}
pub use Rattle.byte_words.specs.Bytes.{is_digit}
use Rattle.byte_words.specs.Bytes.{is_one_of}
use Rattle.byte_words.specs.Lists.{AllPassing}

abbrev pub AreDigits : List ℕ → Type 0
AreDigits bytes = AllPassing is_digit bytes

-- the number that digits stand for: each counts ten to the number of digits after it
abbrev pub digits_value : List ℕ → ℕ
digits_value [] = 0
digits_value (b ∷ bs) = (b - 48) * 10 ^ length bs + digits_value bs

-- e or E
abbrev pub is_exponent_letter : ℕ → Bool
is_exponent_letter b = is_one_of (codes "eE") b

pub data Sign : Type 0 where
  unsigned : Sign
  plus : Sign
  minus : Sign

pub record Exponent : Type 0 where
  pub letter : ℕ
  pub sign : Sign
  pub digits : List ℕ

-- digits, perhaps a point and digits, perhaps an exponent
pub record Decimal : Type 0 where
  pub whole : List ℕ
  pub fraction : Option (List ℕ)
  pub exponent : Option Exponent

abbrev pub sign_text : Sign → List ℕ
sign_text Sign.unsigned = []
sign_text Sign.plus = 43 ∷ []
sign_text Sign.minus = 45 ∷ []

abbrev pub fraction_text : Option (List ℕ) → List ℕ
fraction_text None = []
fraction_text (Some digits) = 46 ∷ digits

abbrev pub exponent_text : Option Exponent → List ℕ
exponent_text None = []
exponent_text (Some e) = e.letter ∷ (sign_text e.sign ++ e.digits)

abbrev pub decimal_text : Decimal → List ℕ
decimal_text d = d.whole ++ (fraction_text d.fraction ++ exponent_text d.exponent)

abbrev pub fraction_digits : Option (List ℕ) → List ℕ
fraction_digits None = []
fraction_digits (Some digits) = digits

abbrev pub exponent_digits : Option Exponent → List ℕ
exponent_digits None = []
exponent_digits (Some e) = e.digits

-- one digit or more in an exponent
abbrev pub IsExponent : Option Exponent → Type 0
IsExponent None = ⊤
IsExponent (Some e) = (is_exponent_letter e.letter ≡ true) × AreDigits e.digits × (1 ≤ length e.digits)

-- one digit or more before the exponent, on either side of the point
pub record IsDecimal (d : Decimal) : Type 0 where
  pub whole : AreDigits d.whole
  pub fraction : AreDigits (fraction_digits d.fraction)
  pub some : 1 ≤ length d.whole + length (fraction_digits d.fraction)
  pub exponent : IsExponent d.exponent

abbrev pub has_minus : Sign → Bool
has_minus Sign.unsigned = false
has_minus Sign.plus = false
has_minus Sign.minus = true

abbrev pub lowers : Option Exponent → Bool
lowers None = false
lowers (Some e) = has_minus e.sign

-- the power of ten that an exponent multiplies by, and the one that it divides by
abbrev pub raised_by : Bool → ℕ → ℕ
raised_by lowers n = if lowers then 0 else n

abbrev pub lowered_by : Bool → ℕ → ℕ
lowered_by lowers n = if lowers then n else 0

-- the value of a decimal number, as a fraction of two whole numbers
abbrev pub numerator : Decimal → ℕ
numerator d = digits_value (d.whole ++ fraction_digits d.fraction) * 10 ^ raised_by (lowers d.exponent) (digits_value (exponent_digits d.exponent))

abbrev pub denominator : Decimal → ℕ
denominator d = 10 ^ length (fraction_digits d.fraction) * 10 ^ lowered_by (lowers d.exponent) (digits_value (exponent_digits d.exponent))

-- the text is a decimal number from 0 to 1 that has this whole number of units, of which 10 ^ 36 are 1
pub record IsConfidence (text : List ℕ) (units : ℕ) : Type 0 where
  pub decimal : Decimal
  pub form : IsDecimal decimal
  pub spelled : text ≡ decimal_text decimal
  pub value : units * denominator decimal ≡ 10 ^ 36 * numerator decimal
  pub most : units ≤ 10 ^ 36
