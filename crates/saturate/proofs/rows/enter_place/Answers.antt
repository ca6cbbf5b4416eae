use Rattle.std.proofs.Common.{length, arith}
use Rattle.fact_layers.specs.Tops.{whole}
use Rattle.rule_steps.specs.Growing.{facts_in}
use Rattle.saturate.specs.Inside.Clashes.{AreLiveWithin, HasClashAt}
use Rattle.saturate.specs.Inside.Rows.{IsEntered}
use Rattle.saturate.specs.Inside.Saturated.{AreAnsweredWithin, IsCaughtUp}
use Rattle.saturate.proofs.ClashLaws.{facts_length, live_less}
use Rattle.saturate.proofs.LoopLaws.{grown_length, live_grown}
use Rattle.saturate.proofs.AnsweredLaws.{caught_as, caught_more}
use Rattle.saturate.proofs.rows.enter_place.Goals as goal

pub close_until_clash-requires-clause-within : goal.close_until_clash-requires-clause-within
close_until_clash-requires-clause-within c =
    let count = facts_length (whole c.args.layers.now) in
    let longer = grown_length c.args.grounds.now c.args.layers.now c.answer_rows.new.layers c.answer_rows.ensures.grown in omega arith

pub close_until_clash-requires-clause-derived : goal.close_until_clash-requires-clause-derived
close_until_clash-requires-clause-derived c = c.answer_rows.ensures.grown.derived c.requires.caught_up.derived

pub close_until_clash-requires-clause-live : goal.close_until_clash-requires-clause-live
close_until_clash-requires-clause-live c =
    let case = c.args.grounds.now.case in
    let old = c.args.layers.now in
    let count = facts_length (whole old) in
    live_grown c.args.grounds.now case old c.answer_rows.new.layers 0 c.len-from.result c.answer_rows.ensures.grown (omega arith)
    (live_less case (facts_in old) 0 (length (facts_in old)) c.len-from.result (omega arith) c.requires.caught_up.live)

pub returns-clause-entered : goal.returns-clause-entered
returns-clause-entered c =
    let grounds = c.args.grounds.now in
    let old = c.args.layers.now in
    let entered = c.answer_rows.new.layers in
    let new = c.close_until_clash.new.layers in
    let longer = c.growing_takes_nothing_away.ensures.twice grounds old entered new c.answer_rows.ensures.grown c.close_until_clash.ensures.grown in
    let more = grown_length grounds old entered c.answer_rows.ensures.grown in
    caught_as c.close_until_clash.result (AreAnsweredWithin grounds c.len-from.result (length (facts_in new)) (facts_in new)) (AreLiveWithin grounds.case 0 (length (facts_in new)) (facts_in new))
    (IsCaughtUp grounds new × IsEntered grounds c.args.first (facts_in new) c.args.place) (HasClashAt grounds.case (facts_in new))
    (λ answered live. (
      caught_more grounds old new (λ p. c.growing_takes_nothing_away.ensures.answered grounds old new p longer) c.len-from.result longer c.len-from.ensures.count c.requires.caught_up answered live,
      c.growing_takes_nothing_away.ensures.by_inclusions grounds entered new c.args.first c.args.place c.close_until_clash.ensures.grown (omega (arith, c.requires.within)) c.in_ok-answer_rows.ensures.answered,
    ))
    c.close_until_clash.ensures.answered c.close_until_clash.ensures.live
