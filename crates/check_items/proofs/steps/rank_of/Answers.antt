use Rattle.std.proofs.Common.{arith, inl, inr}
use Rattle.check_items.proofs.TableLaws.{rank_past, rank_there}
use Rattle.check_items.proofs.steps.rank_of.Goals.{then-place-eq0-via-then-place-eq0, then-place-eq0-via-else-place-eq0+then-place-ranks}
use Rattle.check_items.proofs.steps.rank_of.Goals as goal

pub returns-then-place-eq0 : goal.returns-then-place-eq0
returns-then-place-eq0 c order has is =
    rank_past c.rows_have_their_ranks.ensures.none order c.args.ranks.now c.args.row has is (elim c.then-place-eq0.branch [
      | then-place-eq0-via-then-place-eq0 w ↦ inl (omega (arith, w.if-place-eq0))
      | then-place-eq0-via-else-place-eq0+then-place-ranks w ↦ inr (omega (arith, w.if-place-ranks))
    ])

pub returns : goal.returns
returns c order has is = rank_there order c.args.ranks.now c.args.row is (omega (arith, c.if-place-eq0.false)) (omega (arith, c.if-place-ranks.false))
