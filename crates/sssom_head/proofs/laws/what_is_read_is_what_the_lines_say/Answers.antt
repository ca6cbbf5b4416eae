use Rattle.sssom_head.proofs.FoundLaws.{read_is}
use Rattle.sssom_head.proofs.ReadBack.{is_read}
use Rattle.sssom_head.proofs.laws.what_is_read_is_what_the_lines_say.Goals as goal

pub returns-clause-found : goal.returns-clause-found
returns-clause-found c = read_is

pub returns-clause-alone : goal.returns-clause-alone
returns-clause-alone c = is_read
