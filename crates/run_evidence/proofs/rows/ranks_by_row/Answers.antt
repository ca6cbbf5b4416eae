use Rattle.std.proofs.Common.{arith}
use Rattle.run_evidence.proofs.Loops.{rank_found}
use Rattle.run_evidence.proofs.rows.ranks_by_row.Goals as goal

pub returns-clause-ranks : goal.returns-clause-ranks
returns-clause-ranks c =
    rank_found c.args.case.now.order c.loop-rank.ranks.items c.loop-rank.rank c.requires (omega (arith, c.ranks-count.ensures.ranks)) c.loop-rank.invariant.noted
