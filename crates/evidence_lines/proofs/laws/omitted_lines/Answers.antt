use Rattle.evidence_lines.proofs.Found.{NumberLaw}
use Rattle.evidence_lines.proofs.OmittedLaws.{HeadLaw, omitted_back, omitted_again}
use Rattle.evidence_lines.proofs.PlainLaws.{omitted_line}
use Rattle.evidence_lines.proofs.laws.omitted_lines.Goals as goal

pub returns : goal.returns
returns c =
    let n = c.numbers_are_decimal.ensures in
    let law : NumberLaw = record { long = n.long; long_again = n.long_again; short = n.short; short_again = n.short_again; field = n.field } in
    let h = c.names_of_heads_are_told_apart.ensures in
    let heads : HeadLaw = record { found = h.found; named = h.named } in
    record {
      back = λ fields x e. let m = omitted_back law heads fields x e in (m.whole, tt, m.fits);
      again = λ x has is. omitted_again law heads x is;
      line = λ x has is. omitted_line law x is;
    }
