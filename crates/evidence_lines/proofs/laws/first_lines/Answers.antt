use Rattle.std.proofs.Common.{refl, arith}
use Rattle.std.specs.Prelude.{codes}
use Rattle.evidence_lines.proofs.Found.{NumberLaw}
use Rattle.evidence_lines.proofs.FirstLineLaws.{version_is, kind_is, kind_again, count_is, count_again, row_is, row_again, size_is, size_again, end_line_is, version_line, kind_line, numbered_line, row_line, last_line}
use Rattle.evidence_lines.proofs.laws.first_lines.Goals as goal

pub returns : goal.returns
returns c =
    let n = c.numbers_are_decimal.ensures in
    let law : NumberLaw = record { long = n.long; long_again = n.long_again; short = n.short; short_again = n.short_again; field = n.field } in
    record {
      version = record { back = λ fields x e. (version_is fields x e, tt, tt); again = λ x has is. refl; line = λ x has is. version_line };
      kinds = record { back = λ fields x e. (kind_is fields x e, tt, tt); again = λ x has is. kind_again x; line = λ x has is. kind_line x };
      counts = λ word plain. record {
        back = λ fields x e. let m = count_is law word fields x e in (m.0, tt, m.1);
        again = λ x has is. count_again law word x is;
        line = λ x has is. numbered_line law word x plain is;
      };
      rows = λ before. record {
        back = λ fields x e. let m = row_is law before fields x e in (m.whole, m.follows, (m.number, m.count));
        again = λ x has is. row_again law before x.0 x.1 has is.0 is.1;
        line = λ x has is. row_line law x.0 x.1 is.0 is.1;
      };
      size = record {
        back = λ fields x e. let m = size_is law fields x e in (m.0, tt, m.1);
        again = λ x has is. size_again law x is;
        line = λ x has is. numbered_line law (codes "model") x refl (omega (arith, is));
      };
      end = record { back = λ fields x e. (end_line_is fields x e, tt, tt); again = λ x has is. refl; line = λ x has is. last_line };
    }
