use Rattle.std.proofs.Common.{arith, length, ap}
use Rattle.accuse_core.specs.Marks.{is_kept}
use Rattle.accuse_core.proofs.RankLaws.{ranks_at_most}
use Rattle.accuse_core.proofs.marks.Marks.kept_count.Goals as goal

pub overflow_cast-result : goal.overflow_cast-result
overflow_cast-result c =
    let same = ap length c.self.invariant.listed in
    let few = ranks_at_most is_kept 0 c.self.inside.by_rank.items in
    omega (arith, c.len.ensures)
