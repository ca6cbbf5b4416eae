use Rattle.std.proofs.Common.{arith}
use Rattle.check_items.proofs.TableLaws.{ranks_are_rows}
use Rattle.check_items.proofs.rows.row_ranks.Goals as goal

pub returns : goal.returns
returns c =
    let order = c.args.case.now.order in
    let given = c.store-case.ensures.case.given in
    ranks_are_rows order c.loop-rank.ranks.items (λ rank inside. c.rows_have_their_ranks.ensures.place order rank c.requires inside) c.loop-rank.invariant.many
    (λ index inside. given.each_row index (omega (arith, given.ranks, inside)))
    (λ rank inside. c.loop-rank.invariant.set_at rank (omega (arith, inside, c.loop-rank-test.false, c.loop-rank.auto.rank-end, c.ranks-count.ensures.ranks)))
