use Rattle.evidence_lines.proofs.Found.{NumberLaw}
use Rattle.evidence_lines.proofs.JournalLaws.{entry_back, entry_again}
use Rattle.evidence_lines.proofs.PlainLaws.{entry_line}
use Rattle.evidence_lines.proofs.laws.entry_lines.Goals as goal

pub returns : goal.returns
returns c =
    let n = c.numbers_are_decimal.ensures in
    let law : NumberLaw = record { long = n.long; long_again = n.long_again; short = n.short; short_again = n.short_again; field = n.field } in
    record {
      back = λ fields x e. let m = entry_back law fields x e in (m.whole, m.fits.line, m.fits.numbers);
      again = λ x has is. entry_again law x (record { line = has; numbers = is });
      line = λ x has is. entry_line law x is;
    }
