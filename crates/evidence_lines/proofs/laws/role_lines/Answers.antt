use Rattle.evidence_lines.proofs.Found.{NumberLaw}
use Rattle.evidence_lines.proofs.NameLaws.{FrontLaw, role_back, role_again}
use Rattle.evidence_lines.proofs.PlainLaws.{role_line}
use Rattle.evidence_lines.proofs.laws.role_lines.Goals as goal

pub returns : goal.returns
returns c =
    let n = c.numbers_are_decimal.ensures in
    let law : NumberLaw = record { long = n.long; long_again = n.long_again; short = n.short; short_again = n.short_again; field = n.field } in
    let f = c.fronts_are_left_out.ensures in
    let front : FrontLaw = record { found = f.found; whole = f.whole } in
    record {
      back = λ fields x e. let m = role_back law front fields x e in (m.whole, m.fits.line, m.fits.value);
      again = λ x has is. role_again law front x (record { line = has; value = is });
      line = λ x has is. role_line law x has is;
    }
