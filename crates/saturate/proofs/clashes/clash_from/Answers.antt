use Rattle.std.proofs.Common.{length, arith}
use Rattle.fact_layers.specs.Tops.{whole}
use Rattle.rule_steps.specs.Growing.{facts_in}
use Rattle.saturate.proofs.ClashLaws.{facts_length, not_passed, live_more, live_less}
use Rattle.saturate.proofs.clashes.clash_from.Goals as goal

pub loop-place-preserved : goal.loop-place-preserved
loop-place-preserved c =
    live_more c.args.case.now (whole c.args.layers.now) c.args.from c.loop-place.place c.at.result c.at.ensures
    (λ clash. not_passed (c.if-is_clash.ensures.1 clash)) c.loop-place.invariant

pub returns : goal.returns
returns c =
    let count = facts_length (whole c.args.layers.now) in
    live_less c.args.case.now (facts_in c.args.layers.now) c.args.from c.loop-place.place (length (facts_in c.args.layers.now)) (omega arith) c.loop-place.invariant
