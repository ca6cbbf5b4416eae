use Rattle.sssom_head.proofs.HeaderLaws.{built_in_last}
use Rattle.sssom_head.proofs.laws.header_prefixes_win.Goals as goal

pub returns : goal.returns
returns c = built_in_last
