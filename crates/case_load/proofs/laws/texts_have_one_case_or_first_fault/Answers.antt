use Rattle.case_load.proofs.AnswerLaws.{AnswerLaws, no_fault, one_case, one_first}
use Rattle.case_load.proofs.laws.texts_have_one_case_or_first_fault.Goals as goal

pub returns : goal.returns
returns c =
    let documents = c.each_document_has_one_answer.ensures in
    let once = c.ranking_has_each_row_once.ensures in
    let ranks = c.ranking_lists_by_rank.ensures in
    let laws : AnswerLaws = record {
      never_both = documents.never_both;
      one_reading = documents.one_reading;
      one_fault = documents.one_fault;
      one_table = c.bytes_have_one_table_or_first_fault.ensures.alone;
      count = once.count;
      within = once.within;
      rank_of_place = ranks.rank_of_place;
      row_of_rank = ranks.row_of_rank;
    } in
    record {
      never_both = λ texts mode limits loaded fault is first. no_fault laws texts mode limits loaded fault is first;
      one_case = λ texts mode limits one other first second. one_case laws texts mode limits one other first second;
      one_fault = λ texts mode limits one other first second. one_first laws texts mode limits one other first second;
    }
