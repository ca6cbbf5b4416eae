use Rattle.std.proofs.Common.{arith}
use Rattle.accuse_core.specs.Marks.{is_kept}
use Rattle.commit_book.proofs.RankLaws.{few_ranks}
use Rattle.commit_book.proofs.telling.kept_count.Goals as goal

pub overflow_cast-result : goal.overflow_cast-result
overflow_cast-result c = rw c.kept.ensures (omega (arith, few_ranks is_kept 0 c.args.core.now, c.requires))
