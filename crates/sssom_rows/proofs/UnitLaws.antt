-- Each text has the units of a confidence or none.
use Rattle.std.proofs.Common.{◌≡◌, ◌<◌, ◌≤◌, ◌⊎◌, ℕ, ◌+◌, ◌*◌, ◌/◌, ◌^◌, List, [], ◌∷◌, length, Option, Some, None, refl, sym, ap, subst, ◌∙◌, inl, inr, arith}
use Rattle.std.specs.Prelude.{◌==◌}
use Rattle.std.proofs.Math.Nat.{one-le-pow, mul-div_cancel}
use Rattle.std.proofs.lemmas.Bool.{cases_Bool, cases_lt, eqb-true, eqb-false}
use Rattle.std.proofs.lemmas.Nat.{pow-add}
use Rattle.rank_order.specs.Decimal.{Decimal, IsDecimal, decimal_text, fraction_digits, exponent_digits, digits_value, lowered_by, lowers, numerator, denominator, IsConfidence}
use Rattle.rank_order.specs.DecimalTexts.{decimal_of}
use Rattle.sssom_rows.specs.Tables.{HasUnits}
use Rattle.sssom_rows.specs.Faults.{HasNoUnits}

-- what is known of decimal numbers and of confidences
pub record DecimalsAreKnown : Type 0 where
  pub read : (decimal : Decimal) → IsDecimal decimal → decimal_of (decimal_text decimal) ≡ Some decimal
  pub spelled : (text : List ℕ) (decimal : Decimal) → decimal_of text ≡ Some decimal → IsDecimal decimal × (text ≡ decimal_text decimal)
  pub once : (text : List ℕ) (units other : ℕ) → IsConfidence text units → IsConfidence text other → units ≡ other

abbrev pub UnitsKnown : List ℕ → Type 0
UnitsKnown text = ((units : ℕ) × HasUnits text units) ⊎ HasNoUnits text

some_is : (a b : Decimal) → Some a ≡ Some b → a ≡ b
some_is a b e = cc e

power_pos : (n : ℕ) → 0 < 10 ^ n
power_pos n = let one : 1 ≤ 10 ^ n = one-le-pow n 10 (omega arith) in omega arith

denominator_pos : (d : Decimal) → 0 < denominator d
denominator_pos d =
    let places = length (fraction_digits d.fraction) in
    let down = lowered_by (lowers d.exponent) (digits_value (exponent_digits d.exponent)) in
    subst (λ (n : ℕ). 0 < n) (pow-add 10 places down) (power_pos (places + down))

-- a whole number of parts is found by division
quotient : (units k n : ℕ) → 0 < k → units * k ≡ n → n / k ≡ units
quotient units k n pos e = ap (λ (x : ℕ). x / k) (sym e) ∙ mul-div_cancel units pos

value_of : (known : DecimalsAreKnown) (text : List ℕ) (d : Decimal) (units : ℕ) → decimal_of text ≡ Some d → IsConfidence text units
    → (units * denominator d ≡ 10 ^ 36 * numerator d) × (units ≤ 10 ^ 36)
value_of known text d units reads is =
    let same : is.decimal ≡ d = some_is _ _ (sym (known.read is.decimal is.form) ∙ ap decimal_of (sym is.spelled) ∙ reads) in
    (subst (λ (x : Decimal). units * denominator x ≡ 10 ^ 36 * numerator x) same is.value, is.most)

decimal_units : DecimalsAreKnown → (text : List ℕ) (d : Decimal) → decimal_of text ≡ Some d → ((units : ℕ) × IsConfidence text units) ⊎ ((units : ℕ) → IsConfidence text units → ⊥)
decimal_units known text d reads =
    let n = 10 ^ 36 * numerator d in
    let k = denominator d in
    let units = n / k in
    let spelled = known.spelled text d reads in
    elim (cases_Bool (units * k == n)) [
      | inl whole ↦ elim (cases_lt (10 ^ 36) units) [
        | inl large ↦ inr (λ other is.
            let value = value_of known text d other reads is in
            let same = quotient other k n (denominator_pos d) value.0 in
            absurd (omega (arith, same, large, value.1)))
        | inr small ↦ inl (units, record { decimal = d; form = spelled.0; spelled = spelled.1; value = eqb-true _ _ whole; most = omega (arith, small) })
      ]
      | inr part ↦ inr (λ other is.
          let value = value_of known text d other reads is in
          let same = quotient other k n (denominator_pos d) value.0 in
          eqb-false _ _ part (ap (λ (x : ℕ). x * k) same ∙ value.0))
    ]

confidence_units : DecimalsAreKnown → (text : List ℕ) (o : Option Decimal) → decimal_of text ≡ o → ((units : ℕ) × IsConfidence text units) ⊎ ((units : ℕ) → IsConfidence text units → ⊥)
confidence_units known text (Some d) reads = decimal_units known text d reads
confidence_units known text None reads = inr (λ units is. absurd (cc (sym reads ∙ ap decimal_of is.spelled ∙ known.read is.decimal is.form)))

pub units_are_known : DecimalsAreKnown → (text : List ℕ) → UnitsKnown text
units_are_known known [] = inl (10 ^ 36, refl)
units_are_known known (b ∷ bytes) = confidence_units known (b ∷ bytes) (decimal_of (b ∷ bytes)) refl

pub units_once : DecimalsAreKnown → (text : List ℕ) (units other : ℕ) → HasUnits text units → HasUnits text other → units ≡ other
units_once known [] units other is also = is ∙ sym also
units_once known (b ∷ bytes) units other is also = known.once (b ∷ bytes) units other is also
