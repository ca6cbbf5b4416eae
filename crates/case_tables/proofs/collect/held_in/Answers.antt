use Rattle.case_tables.proofs.CollectLaws.{numbered_more}
use Rattle.case_tables.proofs.collect.held_in.Goals as goal

pub loop-number-preserved : goal.loop-number-preserved
loop-number-preserved g c =
    numbered_more (λ node. g.T.HeldEntry.held node.0 node.1) (λ n. n) c.loop-number.number c.loop-number.number c.store-store.result.now.nodes c.node.result
    c.loop-number.entries.items c.put.new.entries.items _ c.node.ensures c.loop-number.invariant c.in_ok-put.ensures
