use Rattle.line_fields.proofs.LineLaws.{lines_again, lines_back}
use Rattle.line_fields.proofs.laws.lines_are_what_is_written.Goals as goal

pub returns : goal.returns
returns c = record { again = lines_again; back = lines_back }
