use Rattle.std.proofs.Common.{length}
use Rattle.rule_steps.specs.Counted.{nodes_of}
use Rattle.rule_steps.specs.Growing.{facts_in}
use Rattle.saturate.proofs.saturation.saturate_all.Goals as goal

pub returns-clause-saturated : goal.returns-clause-saturated
returns-clause-saturated c =
    c.facts_closed_to_the_end_are_closed.ensures c.args.grounds.now (facts_in c.close.new.layers) c.in_ok-close.ensures.closed
    (c.growing_takes_nothing_away.ensures.begun c.args.grounds.now c.args.layers.now c.close.new.layers (length (nodes_of c.args.grounds.now)) c.close.ensures.grown c.requires.begun)
