use Rattle.std.proofs.Common.{◌∙◌, ◌++◌, ap}
use Rattle.fact_table.specs.declared.types.Source.{Source}
use Rattle.case_tables.specs.Keyed.{numbered_from}
use Rattle.case_tables.proofs.CollectLaws.{no_rows, one_more_row}
use Rattle.case_tables.proofs.collect.said_in.Goals as goal

pub loop-rank-init : goal.loop-rank-init
loop-rank-init g c =
    no_rows (λ named. g.T.SaidEntry.said named.0 named.1) c.args.case.now.store.left c.args.case.now.store.right c.left.result.now c.right.result.now
    c.new-entries.result.items c.put_said.new.entries.items c.put_said-2.new.entries.items
    (c.left.ensures ∙ ap (λ store. store.left) c.store.ensures.store) (c.right.ensures ∙ ap (λ store. store.right) c.store-2.ensures.store)
    c.new-entries.ensures.items c.in_ok-put_said.ensures c.in_ok-put_said-2.ensures

pub loop-rank-preserved : goal.loop-rank-preserved
loop-rank-preserved g c =
    one_more_row (λ named. g.T.SaidEntry.said named.0 named.1)
    (numbered_from Source.Left 1 c.args.case.now.store.left ++ numbered_from Source.Right 1 c.args.case.now.store.right) c.args.case.now.over c.loop-rank.rank c.over_of.result.now
    c.loop-rank.entries.items c.put_said-in-loop-rank.new.entries.items
    c.loop-rank.invariant c.over_of.ensures c.in_ok-put_said-3.ensures
