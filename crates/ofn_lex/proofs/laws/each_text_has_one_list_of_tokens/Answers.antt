use Rattle.ofn_lex.proofs.AnswerLaws.{each_has_reading, one_list}
use Rattle.ofn_lex.proofs.laws.each_text_has_one_list_of_tokens.Goals as goal

pub returns-clause-some : goal.returns-clause-some
returns-clause-some c = each_has_reading

pub returns-clause-one : goal.returns-clause-one
returns-clause-one c = one_list
