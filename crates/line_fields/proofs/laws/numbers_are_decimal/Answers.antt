use Rattle.line_fields.proofs.NumberLaws.{long_back, long_again, short_back, short_again, decimal_is_field}
use Rattle.line_fields.proofs.laws.numbers_are_decimal.Goals as goal

pub returns : goal.returns
returns c = record {
  long = λ field n e. let s = long_back field n e in (s.spelled, s.below);
  long_again = long_again;
  short = λ field n e. let s = short_back field n e in (s.spelled, s.below);
  short_again = short_again;
  field = decimal_is_field;
}
