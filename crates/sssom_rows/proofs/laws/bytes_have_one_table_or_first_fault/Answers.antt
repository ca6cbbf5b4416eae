use Rattle.sssom_rows.proofs.UnitLaws.{DecimalsAreKnown}
use Rattle.sssom_rows.proofs.OneAnswer.{HeadersAreKnown, answer_once, answer_exists}
use Rattle.sssom_rows.proofs.laws.bytes_have_one_table_or_first_fault.Goals as goal

pub returns : goal.returns
returns c =
    let read = c.decimals_are_read_as_spelled.ensures in
    let said = c.what_is_read_is_what_the_lines_say.ensures in
    let decimals : DecimalsAreKnown = record { read = read.read; spelled = read.spelled; once = c.texts_stand_for_one_confidence.ensures } in
    let headers : HeadersAreKnown = record {
      found = said.found;
      alone = said.alone;
      joined = c.lines_are_the_text.ensures.joined;
      lines = c.header_lines_are_the_front.ensures.lines;
    } in
    record { found = answer_exists decimals headers; alone = answer_once decimals headers }
