use Rattle.std.proofs.Common.{arith}
use Rattle.accuse_core.proofs.FrontLaws.{front_within}
use Rattle.accuse_core.proofs.marks.Marks.front_from.Goals as goal

pub overflow_cast-result : goal.overflow_cast-result
overflow_cast-result c =
    let few = front_within c.as_slice.result.now in
    let small = c.self.invariant.small in
    omega (arith, c.as_slice.ensures.len)
