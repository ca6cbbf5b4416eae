use Rattle.sssom_head.specs.Lines.{lines_of}
use Rattle.sssom_head.proofs.TextLines.{header_front, all_marked, rest_begins, rest_lines}
use Rattle.sssom_head.proofs.laws.header_lines_are_the_front.Goals as goal

pub returns : goal.returns
returns c = record { front = header_front; marked = λ text. all_marked (lines_of text); rest = rest_begins; lines = rest_lines }
