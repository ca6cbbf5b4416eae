use Rattle.std.proofs.Common.{arith}
use Rattle.accuse_core.proofs.TrackLaws.{opening_tracked}
use Rattle.accuse_core.proofs.marks.Marks.new.Goals as goal

pub invariant_of-result : goal.invariant_of-result
invariant_of-result c =
    rw (c.in_ok-by_rank.ensures, c.in_ok-kept.ensures.items)
    (opening_tracked c.args.ranks _ (omega arith) (omega (arith, c.in_ok-kept.ensures.exact)))
