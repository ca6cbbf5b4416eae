use Rattle.std.proofs.Common.{◌<◌, List, length, ap, ◌∙◌, arith}
use Rattle.accuse_core.specs.declared.mark.Mark.{Mark}
use Rattle.finish_book.proofs.RunLemmas.{block_next}
use Rattle.finish_book.proofs.runs.block.Goals as goal

pub loop-rank-preserved : goal.loop-rank-preserved
loop-rank-preserved c =
    let marks = c.core-core.result.now in
    let count = ap (λ (l : List Mark). length l) c.core-core.ensures in
    let low = c.loop-rank.invariant.0 in
    let inside : c.loop-rank.rank < length marks = omega (arith, count, c.journal.ensures.book.ranks, c.requires) in
    (omega arith, c.in_ok-push_open.ensures ∙ block_next marks c.args.first c.loop-rank.rank c.loop-rank.ranks.items low inside c.loop-rank.invariant.1)
