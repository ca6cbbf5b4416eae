use Rattle.ofn_axiom.proofs.AnswerLaws.{some_answer, never_both_doc, one_reading, one_doc_fault}
use Rattle.ofn_axiom.proofs.laws.each_document_has_one_answer.Goals as goal

pub returns-clause-some : goal.returns-clause-some
returns-clause-some c =
    let items = c.each_text_has_items_or_one_first_fault.ensures in
    some_answer items.some items.never_both items.one_list items.one_fault

pub returns-clause-never_both : goal.returns-clause-never_both
returns-clause-never_both c =
    let items = c.each_text_has_items_or_one_first_fault.ensures in
    never_both_doc items.some items.never_both items.one_list items.one_fault

pub returns-clause-one_reading : goal.returns-clause-one_reading
returns-clause-one_reading c =
    let items = c.each_text_has_items_or_one_first_fault.ensures in
    one_reading items.some items.never_both items.one_list items.one_fault

pub returns-clause-one_fault : goal.returns-clause-one_fault
returns-clause-one_fault c =
    let items = c.each_text_has_items_or_one_first_fault.ensures in
    one_doc_fault items.some items.never_both items.one_list items.one_fault
