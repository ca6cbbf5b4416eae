use Rattle.std.proofs.Common.{arith}
use Rattle.accuse_core.proofs.FrontLaws.{front_within}
use Rattle.accuse_core.proofs.machine.Core.fits_block.Goals as goal

pub overflow_sub-ahead : goal.overflow_sub-ahead
overflow_sub-ahead c = let few = front_within c.self.inside.marks in omega (arith, c.len.ensures)
