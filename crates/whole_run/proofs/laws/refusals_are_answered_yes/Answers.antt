use Rattle.whole_run.proofs.Names.{names_are_apart, names_are_refusal_check}
use Rattle.whole_run.proofs.Refusals.{Cited, refusal_answered}
use Rattle.whole_run.proofs.laws.refusals_are_answered_yes.Goals as goal

pub returns-clause-words : goal.returns-clause-words
returns-clause-words c = names_are_refusal_check

pub returns-clause-yes : goal.returns-clause-yes
returns-clause-yes c = λ words el_part workers names limits run check part class answer given is after.
    let cited : Cited = record {
      read_again = c.texts_are_what_is_read.ensures.again;
      one_reading = c.each_document_has_one_answer.ensures.one_reading;
      one_table = c.bytes_have_one_table_or_first_fault.ensures.alone;
      never_both = c.texts_have_one_case_or_first_fault.ensures.never_both;
    } in
    refusal_answered cited el_part names (names_are_apart words el_part workers names given) limits run check part class answer is after
