use Rattle.std.proofs.Common.{◌≡◌, ℕ, ◌*◌, ◌^◌, List, [], refl, arith, sym, subst, ◌∙◌}
use Rattle.std.specs.Prelude.{Some, None, codes}
use Rattle.rank_order.specs.Decimal.{Sign, Decimal, IsConfidence}
use Rattle.rank_order.specs.DecimalTexts.{decimal_of}
use Rattle.rank_order.proofs.ConfidenceLaws.{confidence_from, confidence_is, IsScaledDecimal}
use Rattle.rank_order.proofs.laws.confidences_of_small_texts.Goals as goal

pub returns-clause-one_unit : goal.returns-clause-one_unit
returns-clause-one_unit c =
    let d : Decimal = record { whole = codes "1"; fraction = None; exponent = Some (record { letter = 101; sign = Sign.minus; digits = codes "36" }) } in
    confidence_from (codes "1e-36") d 1 refl (record { same = refl; most = omega arith })

pub returns-clause-one : goal.returns-clause-one
returns-clause-one c =
    let d : Decimal = record { whole = codes "10"; fraction = None; exponent = Some (record { letter = 101; sign = Sign.minus; digits = codes "1" }) } in
    confidence_from (codes "10e-1") d (10 ^ 36) refl (record { same = refl; most = omega arith })

pub returns-clause-half : goal.returns-clause-half
returns-clause-half c =
    let d : Decimal = record { whole = []; fraction = Some (codes "5"); exponent = None } in
    confidence_from (codes ".5") d (5 * 10 ^ 35) refl (record { same = refl; most = omega arith })

-- units of the number that the text is spelled as
units_at : (text : List ℕ) (d : Decimal) (units : ℕ) → decimal_of text ≡ Some d → IsConfidence text units → IsScaledDecimal d units
units_at text d units e h =
    let is = confidence_is text units h in
    let same : h.decimal ≡ d = let both : Some h.decimal ≡ Some d = sym is.0 ∙ e in cc in
    subst (λ (x : Decimal). IsScaledDecimal x units) same is.1

pub returns-clause-too_fine : goal.returns-clause-too_fine
returns-clause-too_fine c units h =
    let d : Decimal = record { whole = codes "1"; fraction = None; exponent = Some (record { letter = 101; sign = Sign.minus; digits = codes "37" }) } in
    let scaled = units_at (codes "1e-37") d units refl h in
    omega (arith, scaled.same)

pub returns-clause-too_large : goal.returns-clause-too_large
returns-clause-too_large c units h =
    let d : Decimal = record { whole = codes "1"; fraction = Some (codes "01"); exponent = None } in
    let scaled = units_at (codes "1.01") d units refl h in
    omega (arith, scaled.same, scaled.most)

pub returns-clause-no_sign : goal.returns-clause-no_sign
returns-clause-no_sign c units h = let none : None ≡ Some h.decimal = (confidence_is (codes "+0.5") units h).0 in cc
