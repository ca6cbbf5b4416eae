use Rattle.repaired_table.proofs.Again.{again}
use Rattle.repaired_table.proofs.laws.what_is_written_reads_again.Goals as goal

pub returns : goal.returns
returns c =
    let lines = c.lines_are_the_text.ensures in
    let header = c.header_lines_are_the_front.ensures in
    again (record {
      form = lines.form;
      joined = lines.joined;
      alone = lines.alone;
      front = header.front;
      marked = header.marked;
      lines = header.lines;
    }) c.one_mark_is_left_out.ensures.other
