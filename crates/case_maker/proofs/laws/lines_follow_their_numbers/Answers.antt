use Rattle.std.proofs.Common.{[], sym}
use Rattle.case_maker.proofs.LineLaws.{lines_more}
use Rattle.case_maker.proofs.laws.lines_follow_their_numbers.Goals as goal

pub returns-clause-more : goal.returns-clause-more
returns-clause-more c = λ line count. sym (lines_more [] line count)
