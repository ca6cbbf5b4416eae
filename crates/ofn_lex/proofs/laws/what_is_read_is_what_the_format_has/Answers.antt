use Rattle.ofn_lex.proofs.AnswerLaws.{next_is_answer, answer_is_next}
use Rattle.ofn_lex.proofs.laws.what_is_read_is_what_the_format_has.Goals as goal

pub returns-clause-found : goal.returns-clause-found
returns-clause-found c = next_is_answer

pub returns-clause-alone : goal.returns-clause-alone
returns-clause-alone c = answer_is_next
