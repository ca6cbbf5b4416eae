use Rattle.std.proofs.Common.{◌+◌, length, arith}
use Rattle.concept_store.specs.declared.types.NodeAxiom.{NodeAxiom}
use Rattle.fact_table.specs.declared.types.Fact.{Fact}
use Rattle.std.proofs.Common.{All, get_or, ◌<◌, ℕ, [], subst, sym, ap, ◌∙◌, List}
use Rattle.std.proofs.lemmas.List.Elements.{Contains-get_or}
use Rattle.std.proofs.lemmas.Option.{slice_get-get_or}
use Rattle.std.specs.Prelude.{slice_index_or}
use Rattle.case_file.specs.Cases.{CaseView}
use Rattle.rule_steps.specs.RowAxioms.{IsInclusion}
use Rattle.saturate.specs.Inside.Rows.{AreEntered, RowsStartFrom, StartFrom}
use Rattle.saturate.proofs.RowWalks.{FirstStart, entered_as, entered_or, start_all, start_none, start_or}
use Rattle.rule_steps.specs.Growing.{facts_in}
use Rattle.saturate.specs.Inside.Clashes.{HasClashAt}
use Rattle.saturate.specs.Inside.Saturated.{IsCaughtUp}
use Rattle.saturate.proofs.LoopLaws.{grown_length}
use Rattle.saturate.proofs.DecideLaws.{at_none}
use Rattle.saturate.proofs.rows.enter_rows.Goals as goal

pub loop-rank-init : goal.loop-rank-init
loop-rank-init c = record {
  grown = c.growing_takes_nothing_away.ensures.none c.args.grounds.now c.args.layers.now;
  caught_up = c.requires.caught_up;
  entered = start_none c.args.ranks.now (λ (rank : ℕ). StartFrom (slice_index_or c.args.grounds.now.case.over rank [])) c.args.grounds.now c.args.first c.args.below (facts_in c.args.layers.now);
}

pub enter_row-requires-clause-within : goal.enter_row-requires-clause-within
enter_row-requires-clause-within c =
    let longer = grown_length c.args.grounds.now c.args.layers.now c.loop-rank.layers c.loop-rank.invariant.grown in omega (arith, c.requires.within)

pub over_of-axioms-requires : goal.over_of-axioms-requires
over_of-axioms-requires c =
    let here = get_or c.args.ranks.now c.loop-rank.rank-index 0 in
    subst (λ (v : CaseView). here < length v.order) (sym c.case.ensures) (c.requires.ranks here (Contains-get_or c.args.ranks.now c.loop-rank.rank-index 0 c.loop-rank-test.true))

pub enter_row-requires-clause-inclusions : goal.enter_row-requires-clause-inclusions
enter_row-requires-clause-inclusions c =
    let here = get_or c.args.ranks.now c.loop-rank.rank-index 0 in
    subst (All IsInclusion) (sym (c.over_of-axioms.ensures ∙ ap (λ (v : CaseView). slice_index_or v.over here []) c.case.ensures)) (c.requires.inclusions here)

pub loop-rank-preserved : goal.loop-rank-preserved
loop-rank-preserved c =
    let grounds = c.args.grounds.now in
    let old = c.loop-rank.layers in
    let new = c.enter_row.new.layers in
    let longer = grown_length grounds c.args.layers.now old c.loop-rank.invariant.grown in
    let here = get_or c.args.ranks.now c.loop-rank.rank-index 0 in
    let axioms = c.over_of-axioms.ensures ∙ ap (λ (v : CaseView). slice_index_or v.over here []) c.case.ensures in
    let done = at_none c.in_ok-clash.field-0 (IsCaughtUp grounds new × AreEntered grounds c.args.first c.args.below (StartFrom c.over_of-axioms.result.now) (facts_in new)) (HasClashAt grounds.case (facts_in new)) c.in-None.is
    c.in_ok-clash.ensures.entered in
    record {
      grown = c.growing_takes_nothing_away.ensures.twice grounds c.args.layers.now old new c.loop-rank.invariant.grown c.enter_row.ensures.grown;
      caught_up = done.0;
      entered = entered_or grounds c.args.first old new c.enter_row.ensures.grown (λ p. c.growing_takes_nothing_away.ensures.by_inclusions grounds old new c.args.first p c.enter_row.ensures.grown)
          c.args.below (FirstStart c.args.ranks.now c.loop-rank.rank-index (λ (rank : ℕ). StartFrom (slice_index_or c.args.grounds.now.case.over rank []))) (StartFrom (slice_index_or c.args.grounds.now.case.over (get_or c.args.ranks.now c.loop-rank.rank-index 0) [])) (FirstStart c.args.ranks.now (c.loop-rank.rank-index + 1) (λ (rank : ℕ). StartFrom (slice_index_or c.args.grounds.now.case.over rank []))) (omega (arith, c.requires.within))
          (start_or c.args.ranks.now (λ (rank : ℕ). StartFrom (slice_index_or c.args.grounds.now.case.over rank [])) c.loop-rank.rank-index (get_or c.args.ranks.now c.loop-rank.rank-index 0) (slice_get-get_or c.args.ranks.now c.loop-rank.rank-index 0 c.loop-rank-test.true)) c.loop-rank.invariant.entered
          (subst (λ (said : List NodeAxiom). AreEntered grounds c.args.first c.args.below (StartFrom said) (facts_in new)) axioms done.1);
    }

pub returns-clause-entered : goal.returns-clause-entered
returns-clause-entered c = (
  c.loop-rank.invariant.caught_up,
  entered_as c.args.grounds.now c.args.first c.args.below (facts_in c.loop-rank.layers) (FirstStart c.args.ranks.now c.loop-rank.rank-index (λ (rank : ℕ). StartFrom (slice_index_or c.args.grounds.now.case.over rank []))) (RowsStartFrom c.args.grounds.now.case.over c.args.ranks.now)
      (start_all c.args.ranks.now (λ (rank : ℕ). StartFrom (slice_index_or c.args.grounds.now.case.over rank [])) c.loop-rank.rank-index c.loop-rank-test.false) c.loop-rank.invariant.entered,
)
