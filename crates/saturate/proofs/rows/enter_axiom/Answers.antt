use Rattle.std.proofs.lemmas.Result.{IfOk-weaker}
use Rattle.std.specs.Prelude.{Option, ℕ}
use Rattle.fact_table.specs.declared.types.FactGroup.{FactGroup}
use Rattle.fact_table.specs.declared.types.FactSide.{FactSide}
use Rattle.rule_steps.specs.Growing.{facts_in}
use Rattle.saturate.specs.declared.rows.Start.{Start}
use Rattle.saturate.specs.Inside.Clashes.{HasClashAt}
use Rattle.saturate.specs.Inside.Rows.{AreEntered, IsLinkBy, IsOfGroup, IsStart, StartsFrom}
use Rattle.saturate.specs.Inside.Saturated.{IsCaughtUp}
use Rattle.saturate.proofs.AnsweredLaws.{caught_so}
use Rattle.saturate.proofs.RowWalks.{entered_as}
use Rattle.std.proofs.Common.{subst}
use Rattle.saturate.proofs.rows.enter_axiom.Goals as goal

pub returns-in-Node-clause-entered : goal.returns-in-Node-clause-entered
returns-in-Node-clause-entered c =
    let grounds = c.args.grounds.now in
    let new = c.enter_group.new.layers in
    let starts = subst (IsStart c.args.said.now) c.in-Node.is c.start_of.ensures in
    caught_so c.enter_group.result (IsCaughtUp grounds new × AreEntered grounds c.args.first c.args.below (IsOfGroup FactSide.Into (FactGroup.Subs c.in-Node.low)) (facts_in new))
    (IsCaughtUp grounds new × AreEntered grounds c.args.first c.args.below (StartsFrom c.args.said.now) (facts_in new)) (HasClashAt grounds.case (facts_in new))
    (λ both. (both.0, entered_as grounds c.args.first c.args.below (facts_in new) (IsOfGroup FactSide.Into (FactGroup.Subs c.in-Node.low)) (StartsFrom c.args.said.now) starts both.1))
    c.enter_group.ensures.entered

pub returns-in-Role-clause-entered : goal.returns-in-Role-clause-entered
returns-in-Role-clause-entered c =
    let grounds = c.args.grounds.now in
    let new = c.enter_links.new.layers in
    let starts = subst (IsStart c.args.said.now) c.in-Role.is c.start_of.ensures in
    caught_so c.enter_links.result (IsCaughtUp grounds new × AreEntered grounds c.args.first c.args.below (IsLinkBy c.in-Role.role) (facts_in new))
    (IsCaughtUp grounds new × AreEntered grounds c.args.first c.args.below (StartsFrom c.args.said.now) (facts_in new)) (HasClashAt grounds.case (facts_in new))
    (λ both. (both.0, entered_as grounds c.args.first c.args.below (facts_in new) (IsLinkBy c.in-Role.role) (StartsFrom c.args.said.now) starts both.1))
    c.enter_links.ensures.entered
