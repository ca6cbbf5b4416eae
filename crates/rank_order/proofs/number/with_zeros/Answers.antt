use Rattle.rank_order.proofs.PowerLaws.{large, few_zeros}
use Rattle.std.proofs.Common.{arith}
use Rattle.rank_order.proofs.number.with_zeros.Goals as goal

pub returns-then-zeros-gt36 : goal.returns-then-zeros-gt36
returns-then-zeros-gt36 c = large c.args.number c.args.zeros (omega arith) c.if-zeros-gt36.true

pub pow-requires : goal.pow-requires
pow-requires c = few_zeros c.args.zeros c.if-zeros-gt36.false
