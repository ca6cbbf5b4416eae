use Rattle.accuse_core.specs.Marks.{is_kept}
use Rattle.valid_evidence.specs.Rows.{decided_marks}
use Rattle.valid_evidence.proofs.RankLaws.{rank_of_place, no_rank, ranks_ascend}
use Rattle.valid_evidence.proofs.RowLaws.{left_is_kept, kept_is_left, kept_is_inside}
use Rattle.valid_evidence.proofs.laws.rows_have_their_ranks.Goals as goal

pub returns : goal.returns
returns c = record {
  place = rank_of_place;
  none = no_rank;
  left = λ removed order rank inside stays. left_is_kept c.kept_ranks_have_the_mark.ensures removed order rank inside stays;
  gone = λ removed order rank held. kept_is_left c.kept_ranks_have_the_mark.ensures removed order rank held;
  within = λ removed order rank held. kept_is_inside c.kept_ranks_have_the_mark.ensures removed order rank held;
  ascending = λ removed order. ranks_ascend is_kept 0 (decided_marks removed order);
}
