use Rattle.byte_words.proofs.FrontLaws.{mark_left_out, unmarked_stays}
use Rattle.byte_words.proofs.laws.one_mark_is_left_out.Goals as goal

pub returns : goal.returns
returns c = record { mark = mark_left_out; other = unmarked_stays }
