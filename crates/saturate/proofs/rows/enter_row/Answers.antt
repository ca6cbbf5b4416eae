use Rattle.std.proofs.Common.{◌+◌, length, arith}
use Rattle.concept_store.specs.declared.types.NodeAxiom.{NodeAxiom}
use Rattle.rule_steps.specs.RowAxioms.{IsInclusion}
use Rattle.fact_table.specs.declared.types.Fact.{Fact}
use Rattle.std.proofs.Common.{◌∙◌, Some, ap, subst, sym}
use Rattle.std.proofs.lemmas.List.Elements.{Contains-get_or}
use Rattle.std.proofs.lemmas.Option.{slice_get-get_or}
use Rattle.saturate.specs.Inside.Rows.{AreEntered, StartFrom, StartsFrom}
use Rattle.saturate.proofs.RowWalks.{FirstStart, entered_as, entered_or, start_all, start_none, start_or}
use Rattle.rule_steps.specs.Growing.{facts_in}
use Rattle.saturate.specs.Inside.Clashes.{HasClashAt}
use Rattle.saturate.specs.Inside.Saturated.{IsCaughtUp}
use Rattle.saturate.proofs.LoopLaws.{grown_length}
use Rattle.saturate.proofs.DecideLaws.{at_none}
use Rattle.saturate.proofs.rows.enter_row.Goals as goal

pub loop-said-init : goal.loop-said-init
loop-said-init c = record {
  grown = c.growing_takes_nothing_away.ensures.none c.args.grounds.now c.args.layers.now;
  caught_up = c.requires.caught_up;
  entered = start_none c.args.axioms.now StartsFrom c.args.grounds.now c.args.first c.args.below (facts_in c.args.layers.now);
}

pub enter_axiom-requires-clause-within : goal.enter_axiom-requires-clause-within
enter_axiom-requires-clause-within c =
    let longer = grown_length c.args.grounds.now c.args.layers.now c.loop-said.layers c.loop-said.invariant.grown in omega (arith, c.requires.within)

pub enter_axiom-requires-clause-inclusion : goal.enter_axiom-requires-clause-inclusion
enter_axiom-requires-clause-inclusion c = subst IsInclusion (sym c.said-item.is) (c.requires.inclusions c.loop-said.said-index c.said-item.result c.loop-said-test.true)

pub loop-said-preserved : goal.loop-said-preserved
loop-said-preserved c =
    let grounds = c.args.grounds.now in
    let old = c.loop-said.layers in
    let new = c.enter_axiom.new.layers in
    let longer = grown_length grounds c.args.layers.now old c.loop-said.invariant.grown in
    let done = at_none c.in_ok-clash.field-0 (IsCaughtUp grounds new × AreEntered grounds c.args.first c.args.below (StartsFrom c.said-item.result) (facts_in new)) (HasClashAt grounds.case (facts_in new)) c.in-None.is
    c.in_ok-clash.ensures.entered in
    record {
      grown = c.growing_takes_nothing_away.ensures.twice grounds c.args.layers.now old new c.loop-said.invariant.grown c.enter_axiom.ensures.grown;
      caught_up = done.0;
      entered = entered_or grounds c.args.first old new c.enter_axiom.ensures.grown (λ p. c.growing_takes_nothing_away.ensures.by_inclusions grounds old new c.args.first p c.enter_axiom.ensures.grown)
          c.args.below (FirstStart c.args.axioms.now c.loop-said.said-index StartsFrom) (StartsFrom c.said-item.result) (FirstStart c.args.axioms.now (c.loop-said.said-index + 1) StartsFrom) (omega (arith, c.requires.within))
          (start_or c.args.axioms.now StartsFrom c.loop-said.said-index c.said-item.result (slice_get-get_or c.args.axioms.now c.loop-said.said-index c.said-item.result c.loop-said-test.true ∙ ap Some (sym c.said-item.is))) c.loop-said.invariant.entered done.1;
    }

pub returns-clause-entered : goal.returns-clause-entered
returns-clause-entered c = (
  c.loop-said.invariant.caught_up,
  entered_as c.args.grounds.now c.args.first c.args.below (facts_in c.loop-said.layers) (FirstStart c.args.axioms.now c.loop-said.said-index StartsFrom) (StartFrom c.args.axioms.now)
      (start_all c.args.axioms.now StartsFrom c.loop-said.said-index c.loop-said-test.false) c.loop-said.invariant.entered,
)
