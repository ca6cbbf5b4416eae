use Rattle.sssom_head.proofs.TextLines.{joined, lines_are, lines_alone}
use Rattle.sssom_head.proofs.laws.lines_are_the_text.Goals as goal

pub returns : goal.returns
returns c = record { joined = joined; form = lines_are; alone = lines_alone }
