-- What the code keeps of a decimal number and its exponent.
use Rattle.std.specs.Prelude.{◌≡◌, Option, Some, None, ⊤}
use Rattle.rank_order.specs.Decimal.{Exponent, Decimal, fraction_digits, exponent_digits, lowers}
use Rattle.rank_order.specs.declared.decimal.ExponentText.{ExponentText}
use Rattle.rank_order.specs.declared.decimal.DecimalText.{DecimalText}

-- the same exponent, or both are none
abbrev pub IsExponentText : Option (Option Exponent) → Option ExponentText → Type 0
IsExponentText None None = ⊤
IsExponentText None (Some text) = ⊥
IsExponentText (Some exponent) None = ⊥
IsExponentText (Some exponent) (Some text) = (text.lowers ≡ lowers exponent) × (text.digits.now ≡ exponent_digits exponent)

pub record HasParts (decimal : Decimal) (text : DecimalText) : Type 0 where
  pub whole : text.whole.now ≡ decimal.whole
  pub fraction : text.fraction.now ≡ fraction_digits decimal.fraction
  pub lowers : text.exponent.lowers ≡ lowers decimal.exponent
  pub digits : text.exponent.digits.now ≡ exponent_digits decimal.exponent

-- the same decimal number, or both are none
abbrev pub IsDecimalText : Option Decimal → Option DecimalText → Type 0
IsDecimalText None None = ⊤
IsDecimalText None (Some text) = ⊥
IsDecimalText (Some decimal) None = ⊥
IsDecimalText (Some decimal) (Some text) = HasParts decimal text
