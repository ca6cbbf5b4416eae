use Rattle.std.proofs.lemmas.List.{take_rest}
use Rattle.ofn_lex.proofs.AnswerLaws.{answer_in_steps}
use Rattle.ofn_lex.proofs.CharacterLaws.{answer_keeps_characters}
use Rattle.ofn_lex.proofs.next.next_token.Goals as goal

pub returns-clause-format : goal.returns-clause-format
returns-clause-format c = answer_in_steps _ _ _ _ _ _ (take_rest c.args.text.now c.args.from) c.gap_end-at.ensures.end (take_rest c.args.text.now c.gap_end-at.result) c.first_of.ensures.answer

pub returns-clause-characters : goal.returns-clause-characters
returns-clause-characters c = λ utf8 start. answer_keeps_characters _ _ _ utf8 start (returns-clause-format c)
