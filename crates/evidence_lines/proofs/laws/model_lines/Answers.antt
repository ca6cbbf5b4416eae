use Rattle.evidence_lines.proofs.Found.{NumberLaw}
use Rattle.evidence_lines.proofs.ModelLaws.{members_back, members_again, pairs_back, pairs_of_again}
use Rattle.evidence_lines.proofs.PlainLaws.{members_line, pairs_line}
use Rattle.evidence_lines.proofs.laws.model_lines.Goals as goal

pub returns : goal.returns
returns c =
    let n = c.numbers_are_decimal.ensures in
    let law : NumberLaw = record { long = n.long; long_again = n.long_again; short = n.short; short_again = n.short_again; field = n.field } in
    record {
      classes = λ place. record {
        back = λ fields x e. let m = members_back law place fields x e in (m.whole, record { small = m.fits.within; ascend = m.fits.elements.ascend }, m.fits.elements.numbers);
        again = λ x has is. members_again law place x (record { within = has.small; elements = record { ascend = has.ascend; numbers = is } });
        line = λ x has is. members_line law place x has.small is;
      };
      properties = λ place. record {
        back = λ fields x e. let m = pairs_back law place fields x e in (m.whole, record { small = m.fits.within; ascend = m.fits.pairs.ascend }, m.fits.pairs.numbers);
        again = λ x has is. pairs_of_again law place x (record { within = has.small; pairs = record { ascend = has.ascend; numbers = is } });
        line = λ x has is. pairs_line law place x has.small is;
      };
    }
