use Rattle.std.proofs.Common.{◌-◌, arith}
use Rattle.finish_book.proofs.RunLemmas.{powers_in_order}
use Rattle.finish_book.proofs.runs.levels_of.Goals as goal

pub returns-else-ranks-le1-clause-least : goal.returns-else-ranks-le1-clause-least
returns-else-ranks-le1-clause-least c = λ levels enough. powers_in_order c.ilog2.result levels (c.args.ranks - 1) c.ilog2.ensures.power_le (omega arith)
