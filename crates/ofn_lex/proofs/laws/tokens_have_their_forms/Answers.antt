use Rattle.ofn_lex.proofs.OrderLaws.{next_starts, next_is_token, each_is_token, in_order}
use Rattle.ofn_lex.proofs.laws.tokens_have_their_forms.Goals as goal

pub returns-clause-next : goal.returns-clause-next
returns-clause-next c = λ text from token next. (next_starts text from token next, next_is_token text from token next)

pub returns-clause-each : goal.returns-clause-each
returns-clause-each c = each_is_token

pub returns-clause-in_order : goal.returns-clause-in_order
returns-clause-in_order c = in_order
