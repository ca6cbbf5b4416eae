use Rattle.std.proofs.Common.{◌≡◌, ◌≤◌, length, arith, subst}
use Rattle.fact_layers.specs.Tops.{whole}
use Rattle.rule_steps.specs.Growing.{facts_in}
use Rattle.case_file.specs.Cases.{CaseView}
use Rattle.saturate.specs.Inside.Clashes.{AreLiveWithin, HasClashAt}
use Rattle.saturate.specs.Inside.Saturated.{AreAnsweredWithin}
use Rattle.saturate.proofs.ClashLaws.{facts_length, live_less, live_on}
use Rattle.saturate.proofs.LoopLaws.{grown_length, live_grown}
use Rattle.saturate.proofs.AnsweredLaws.{within_more}
use Rattle.saturate.proofs.closing.close_until_clash.Goals as goal

pub returns-then-place-seen-clause-answered : goal.returns-then-place-seen-clause-answered
returns-then-place-seen-clause-answered c =
    let count = facts_length (whole c.loop-place.layers) in
    let at_end : c.loop-place.place ≡ length (facts_in c.loop-place.layers) = omega arith in
    subst (λ n. AreAnsweredWithin c.args.grounds.now c.args.from n (facts_in c.loop-place.layers)) at_end c.loop-place.invariant.answered

pub returns-then-place-seen-clause-live : goal.returns-then-place-seen-clause-live
returns-then-place-seen-clause-live c =
    live_on c.args.grounds.now.case (facts_in c.loop-place.layers) 0 c.loop-place.seen (length (facts_in c.loop-place.layers)) c.loop-place.invariant.live
    (subst (λ (v : CaseView). AreLiveWithin v c.loop-place.seen (length (facts_in c.loop-place.layers)) (facts_in c.loop-place.layers)) c.case.ensures c.in-None.ensures)

pub loop-place-preserved : goal.loop-place-preserved
loop-place-preserved c =
    let grounds = c.args.grounds.now in
    let old = c.loop-place.layers in
    let new = c.answer.new.layers in
    let count = facts_length (whole old) in
    let longer = grown_length grounds old new c.answer.ensures.grown in
    let all_seen : c.len-seen.result ≤ length (facts_in old) = omega arith in
    let unseen = subst (λ (v : CaseView). AreLiveWithin v c.loop-place.seen (length (facts_in old)) (facts_in old)) c.case.ensures c.in-None.ensures in
    record {
      grown = c.growing_takes_nothing_away.ensures.twice grounds c.args.layers.now old new c.loop-place.invariant.grown c.answer.ensures.grown;
      within = omega arith;
      seen = omega arith;
      answered = within_more grounds old new (λ p. c.growing_takes_nothing_away.ensures.answered grounds old new p c.answer.ensures.grown) c.args.from c.loop-place.place (omega arith)
          c.loop-place.invariant.answered c.in_ok-answer.ensures.answered;
      live = live_grown grounds grounds.case old new 0 c.len-seen.result c.answer.ensures.grown all_seen
          (live_less grounds.case (facts_in old) 0 (length (facts_in old)) c.len-seen.result all_seen
          (live_on grounds.case (facts_in old) 0 c.loop-place.seen (length (facts_in old)) c.loop-place.invariant.live unseen));
    }
