-- A text's units, by the numbers that are computed with.
use Rattle.std.proofs.Common.{◌≡◌, ◌∙◌, ℕ, ◌+◌, ◌*◌, ◌^◌, Bool, List, ◌++◌, length, refl, ap, sym, subst, arith}
use Rattle.std.specs.Prelude.{Option, Some, None}
use Rattle.std.proofs.Math.Nat.{eq_of_mul-eq-mul_right}
use Rattle.std.proofs.lemmas.Nat.{pow-add}
use Rattle.rank_order.specs.declared.decimal.DecimalText.{DecimalText}
use Rattle.rank_order.specs.Decimal.{AreDigits, IsExponent, Exponent, Decimal, digits_value, fraction_digits, exponent_digits, lowers, raised_by, lowered_by, IsDecimal, IsConfidence}
use Rattle.rank_order.specs.DecimalTexts.{decimal_of}
use Rattle.rank_order.specs.Inside.Parts.{HasParts, IsDecimalText}
use Rattle.rank_order.specs.Inside.Scale.{joined_number, down_by, AreScaledBy}
use Rattle.rank_order.proofs.PowerLaws.{digits_value-append, ten_pos}
use Rattle.rank_order.proofs.DecimalLaws.{reads_back, is_read}

-- units over the fraction of two whole numbers, and the same with all powers of ten on one side
same_value : (units joined places raised lowered number : ℕ) → number ≡ joined →
    units * 10 ^ (places + lowered) ≡ joined * 10 ^ (36 + raised) → units * (10 ^ places * 10 ^ lowered) ≡ 10 ^ 36 * (number * 10 ^ raised)
same_value units joined places raised lowered number n e =
    ap (λ (k : ℕ). units * k) (sym (pow-add 10 places lowered)) ∙ e ∙ ap (λ (k : ℕ). joined * k) (pow-add 10 36 raised)
    ∙ ap (λ (k : ℕ). k * (10 ^ 36 * 10 ^ raised)) (sym n) ∙ omega arith

-- the same, back again
value_same : (units joined places raised lowered number : ℕ) → number ≡ joined →
    units * (10 ^ places * 10 ^ lowered) ≡ 10 ^ 36 * (number * 10 ^ raised) → units * 10 ^ (places + lowered) ≡ joined * 10 ^ (36 + raised)
value_same units joined places raised lowered number n e =
    ap (λ (k : ℕ). units * k) (pow-add 10 places lowered) ∙ e ∙ omega arith
    ∙ ap (λ (k : ℕ). k * (10 ^ 36 * 10 ^ raised)) n ∙ ap (λ (k : ℕ). joined * k) (sym (pow-add 10 36 raised))

-- the same of a decimal number
abbrev pub IsScaledDecimal : Decimal → ℕ → Type 0
IsScaledDecimal d units = AreScaledBy d.whole (fraction_digits d.fraction) (lowers d.exponent) (exponent_digits d.exponent) units

-- the same of equal parts
scaled_with : (w w' f f' : List ℕ) (l l' : Bool) (x x' : List ℕ) (units : ℕ) → w ≡ w' → f ≡ f' → l ≡ l' → x ≡ x' → AreScaledBy w f l x units → AreScaledBy w' f' l' x' units
scaled_with w w' f f' l l' x x' units ew ef el ex h =
    subst (λ (k : List ℕ). AreScaledBy w' f' l' k units) ex
    (subst (λ (k : Bool). AreScaledBy w' f' k x units) el
    (subst (λ (k : List ℕ). AreScaledBy w' k l x units) ef
    (subst (λ (k : List ℕ). AreScaledBy k f l x units) ew h)))

-- a decimal number with these units gives a confidence
pub confidence_from : (text : List ℕ) (d : Decimal) (units : ℕ) → decimal_of text ≡ Some d → IsScaledDecimal d units → IsConfidence text units
confidence_from text d units e scaled =
    let read = is_read text d e in
    let exponent = digits_value (exponent_digits d.exponent) in
    record {
      decimal = d;
      form = read.0;
      spelled = read.1;
      value = same_value units (joined_number d.whole (fraction_digits d.fraction)) (length (fraction_digits d.fraction)) (raised_by (lowers d.exponent) exponent) (lowered_by (lowers d.exponent) exponent)
          (digits_value (d.whole ++ fraction_digits d.fraction)) (digits_value-append d.whole (fraction_digits d.fraction)) scaled.same;
      most = scaled.most;
    }

-- a confidence is a decimal number with these units
pub confidence_is : (text : List ℕ) (units : ℕ) (h : IsConfidence text units) → (decimal_of text ≡ Some h.decimal) × IsScaledDecimal h.decimal units
confidence_is text units h =
    let d = h.decimal in
    let exponent = digits_value (exponent_digits d.exponent) in (
      ap decimal_of h.spelled ∙ reads_back d h.form,
      record {
        same = value_same units (joined_number d.whole (fraction_digits d.fraction)) (length (fraction_digits d.fraction)) (raised_by (lowers d.exponent) exponent) (lowered_by (lowers d.exponent) exponent)
            (digits_value (d.whole ++ fraction_digits d.fraction)) (digits_value-append d.whole (fraction_digits d.fraction)) h.value;
        most = h.most;
      },
    )

-- the text is no decimal number
pub no_decimal : (text : List ℕ) → IsDecimalText (decimal_of text) None → (units : ℕ) → IsConfidence text units → ⊥
no_decimal text h units is = subst (λ (o : Option Decimal). IsDecimalText o None) (confidence_is text units is).0 h

-- the parts that the code keeps are those of the text's decimal number
pub record IsRead (text : List ℕ) (parts : DecimalText) : Type 0 where
  pub decimal : Decimal
  pub read : decimal_of text ≡ Some decimal
  pub form : IsDecimal decimal
  pub has : HasParts decimal parts

-- the parts that are kept are those that were read
pub parts_are : (text : List ℕ) (parts : DecimalText) → IsDecimalText (decimal_of text) (Some parts) → IsRead text parts
parts_are text parts = by (decimal_of text) refl
  where
    by : (o : Option Decimal) → decimal_of text ≡ o → IsDecimalText o (Some parts) → IsRead text parts
    by None e h = absurd h
    by (Some d) e h = record { decimal = d; read = e; form = (is_read text d e).0; has = h }

-- an exponent has digits
exponent_are_digits : (e : Option Exponent) → IsExponent e → AreDigits (exponent_digits e)
exponent_are_digits None h = tt
exponent_are_digits (Some e) h = h.1

module _ (text : List ℕ) (parts : DecimalText) (r : IsRead text parts) where
  -- there are digits before the point
  pub whole_digits : AreDigits parts.whole.now
  whole_digits = subst AreDigits (sym r.has.whole) r.form.whole

  -- there are digits after the point
  pub fraction_are_digits : AreDigits parts.fraction.now
  fraction_are_digits = subst AreDigits (sym r.has.fraction) r.form.fraction

  -- there are digits in the exponent
  pub exponent_are : AreDigits parts.exponent.digits.now
  exponent_are = subst AreDigits (sym r.has.digits) (exponent_are_digits r.decimal.exponent r.form.exponent)

  -- units of the parts are those of the text
  pub read_from : (units : ℕ) → AreScaledBy parts.whole.now parts.fraction.now parts.exponent.lowers parts.exponent.digits.now units → IsConfidence text units
  read_from units h =
      let d = r.decimal in
      confidence_from text d units r.read
      (scaled_with parts.whole.now d.whole parts.fraction.now (fraction_digits d.fraction) parts.exponent.lowers (lowers d.exponent) parts.exponent.digits.now (exponent_digits d.exponent) units r.has.whole r.has.fraction r.has.lowers r.has.digits h)

  -- without units of the parts the text has none
  pub refused_from : ((units : ℕ) → AreScaledBy parts.whole.now parts.fraction.now parts.exponent.lowers parts.exponent.digits.now units → ⊥) → (units : ℕ) → IsConfidence text units → ⊥
  refused_from none units h =
      let d = r.decimal in
      let is = confidence_is text units h in
      let same : h.decimal ≡ d = let e : Some h.decimal ≡ Some d = sym is.0 ∙ r.read in cc in
      none units
      (scaled_with d.whole parts.whole.now (fraction_digits d.fraction) parts.fraction.now (lowers d.exponent) parts.exponent.lowers (exponent_digits d.exponent) parts.exponent.digits.now units (sym r.has.whole) (sym r.has.fraction) (sym r.has.lowers) (sym r.has.digits)
      (subst (λ (x : Decimal). IsScaledDecimal x units) same is.1))

-- a text has one number of units
pub one_value : (text : List ℕ) (units other : ℕ) → IsConfidence text units → IsConfidence text other → units ≡ other
one_value text units other h k =
    let is = confidence_is text units h in
    let also = confidence_is text other k in
    let same : h.decimal ≡ k.decimal = let e : Some h.decimal ≡ Some k.decimal = sym is.0 ∙ also.0 in cc in
    let one = subst (λ (x : Decimal). IsScaledDecimal x units) same is.1 in
    let d = k.decimal in
    let down = down_by (length (fraction_digits d.fraction)) (lowers d.exponent) (exponent_digits d.exponent) in
    eq_of_mul-eq-mul_right (10 ^ down) (ten_pos down) units other (one.same ∙ sym also.1.same)
