use Rattle.ofn_lex.proofs.AnswerLaws.{kind_of_first}
use Rattle.ofn_lex.proofs.laws.first_bytes_tell_the_kind.Goals as goal

pub returns : goal.returns
returns c = kind_of_first
