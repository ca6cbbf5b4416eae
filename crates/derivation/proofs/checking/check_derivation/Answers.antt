use Rattle.std.proofs.Common.{◌+◌, subst, arith, refl}
use Rattle.std.proofs.lemmas.Option.{slice_get-get_or}
use Rattle.derivation.specs.Steps.{IsGoodDerivation, IsFirstBad, AreGoodSteps, ShowsEmpty}
use Rattle.derivation.proofs.RankLaws.{is_failed}
use Rattle.derivation.proofs.StepLaws.{good_next, good_below}
use Rattle.derivation.proofs.checking.check_derivation.Goals as goal

pub returns-then-not-is_good_step : goal.returns-then-not-is_good_step
returns-then-not-is_good_step c =
    subst (λ steps. IsFirstBad c.args.case.now c.args.part c.args.ranks.now steps (c.loop-count.count + 1)) c.as_slice-steps.ensures (
      c.loop-count.count,
      _,
      refl,
      c.loop-count.invariant,
      slice_get-get_or c.as_slice-steps.result.now c.loop-count.count _ c.loop-count-test.true,
      (λ good. is_failed c.if-not-is_good_step.true (c.is_good_step.ensures.1 good)),
    )

pub loop-count-preserved : goal.loop-count-preserved
loop-count-preserved c =
    good_next c.args.case.now c.args.part c.args.ranks.now c.as_slice-steps.result.now c.loop-count.count _
    (slice_get-get_or c.as_slice-steps.result.now c.loop-count.count _ c.loop-count-test.true)
    c.loop-count.invariant (c.is_good_step.ensures.0 c.if-not-is_good_step.false)

pub returns-then-shows_empty : goal.returns-then-shows_empty
returns-then-shows_empty c =
    subst (IsGoodDerivation c.args.case.now c.args.part c.args.ranks.now) c.as_slice-steps.ensures
    (record {
      good = good_below c.args.case.now c.args.part c.args.ranks.now c.as_slice-steps.result.now c.loop-count.count (omega arith) c.loop-count.invariant;
      shows = c.shows_empty.ensures.0 c.if-shows_empty.true;
    })

pub returns-else-shows_empty : goal.returns-else-shows_empty
returns-else-shows_empty c =
    subst (λ steps. AreGoodSteps c.args.case.now c.args.part c.args.ranks.now steps × ¬ (ShowsEmpty c.args.case.now steps)) c.as_slice-steps.ensures (
      good_below c.args.case.now c.args.part c.args.ranks.now c.as_slice-steps.result.now c.loop-count.count (omega arith) c.loop-count.invariant,
      (λ shows. is_failed c.if-shows_empty.false (c.shows_empty.ensures.1 shows)),
    )
