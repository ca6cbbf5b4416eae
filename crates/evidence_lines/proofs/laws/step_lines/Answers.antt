use Rattle.evidence_lines.proofs.Found.{NumberLaw}
use Rattle.evidence_lines.proofs.StepLaws.{step_back, step_again}
use Rattle.evidence_lines.proofs.PlainLaws.{step_line}
use Rattle.evidence_lines.proofs.laws.step_lines.Goals as goal

pub returns : goal.returns
returns c =
    let n = c.numbers_are_decimal.ensures in
    let law : NumberLaw = record { long = n.long; long_again = n.long_again; short = n.short; short_again = n.short_again; field = n.field } in
    record {
      back = λ fields x e. let m = step_back law fields x e in (m.whole, m.fits.line, m.fits.numbers);
      again = λ x has is. step_again law x (record { line = has; numbers = is });
      line = λ x has is. step_line law x is;
    }
