use Rattle.ofn_term.proofs.TextLaws.{each_has_answer, never_both, one_list_of_items, one_fault}
use Rattle.ofn_term.proofs.laws.each_text_has_items_or_one_first_fault.Goals as goal

pub returns-clause-some : goal.returns-clause-some
returns-clause-some c = λ text most. each_has_answer text most (c.each_text_has_one_list_of_tokens.ensures.some text 0)

pub returns-clause-never_both : goal.returns-clause-never_both
returns-clause-never_both c = λ text most items fault. never_both text most items fault (c.each_text_has_one_list_of_tokens.ensures.one text 0)

pub returns-clause-one_list : goal.returns-clause-one_list
returns-clause-one_list c = λ text most items others. one_list_of_items text most items others (c.each_text_has_one_list_of_tokens.ensures.one text 0)

pub returns-clause-one_fault : goal.returns-clause-one_fault
returns-clause-one_fault c = λ text most fault other. one_fault text most fault other (c.each_text_has_one_list_of_tokens.ensures.one text 0)
