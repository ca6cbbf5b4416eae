-- Whole numbers times powers of ten.
use Rattle.std.specs.Prelude.{◌≡◌, ◌≢◌, ◌≤◌, ◌⊎◌, ℕ, ◌+◌, ◌*◌, ◌%◌, ◌^◌, Bool, List, length}
use Rattle.rank_order.specs.Decimal.{digits_value, raised_by, lowered_by}
use Rattle.rank_order.specs.declared.number.Number.{Number}

-- the number with `up` zeros after it is `units` with `down` zeros, and these are 10 ^ 36 at most
pub record IsScaled (number up down units : ℕ) : Type 0 where
  pub same : units * 10 ^ down ≡ number * 10 ^ up
  pub most : units ≤ 10 ^ 36

-- no whole number of units up to 10 ^ 36 is this number times a power of ten
abbrev pub IsTooFine : ℕ → Type 0
IsTooFine number = (up down units : ℕ) → IsScaled number up down units → ⊥

abbrev pub value_of : Number → ℕ
value_of n = n.significant * 10 ^ n.zeros

-- the significant digits end in no zero, and are few
pub record IsShort (n : Number) : Type 0 where
  pub most : n.significant ≤ 10 ^ 36
  pub last : (n.significant ≡ 0) ⊎ (n.significant % 10 ≢ 0)

-- the number whose digits stand in two lists
abbrev pub joined_number : List ℕ → List ℕ → ℕ
joined_number whole fraction = digits_value whole * 10 ^ length fraction + digits_value fraction

-- the zeros that units and an exponent put after a number, and those that places after the point and an exponent take
abbrev pub up_by : Bool → List ℕ → ℕ
up_by lowers exponent = 36 + raised_by lowers (digits_value exponent)

abbrev pub down_by : ℕ → Bool → List ℕ → ℕ
down_by places lowers exponent = places + lowered_by lowers (digits_value exponent)

-- the same of a number of which so many digits stand after the point, and which an exponent follows
abbrev pub IsScaledBy : ℕ → ℕ → Bool → List ℕ → ℕ → Type 0
IsScaledBy number places lowers exponent units = IsScaled number (up_by lowers exponent) (down_by places lowers exponent) units

-- the same of the digits before the point and after it
abbrev pub AreScaledBy : List ℕ → List ℕ → Bool → List ℕ → ℕ → Type 0
AreScaledBy whole fraction lowers exponent units = IsScaledBy (joined_number whole fraction) (length fraction) lowers exponent units
