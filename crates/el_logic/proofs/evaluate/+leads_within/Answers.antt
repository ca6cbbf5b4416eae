use Rattle.std.proofs.Common.{rules}
use Rattle.el_logic.proofs.ChainSteps.{LeadsOn, each_leads, pair_leads}
use Rattle.el_logic.proofs.Walks.{all_more, refuted}
use Rattle.el_logic.proofs.evaluate.+leads_within.Goals as goal

pub returns-then-not-leads_within : goal.returns-then-not-leads_within
returns-then-not-leads_within t c = (
  (λ no. search rules),
  (λ leads. absurd (refuted c.leads_within.result c.if-not-leads_within.true (c.leads_within.ensures.1
      (pair_leads c.args.i.now c.args.start c.args.at c.args.upper c.in-Some.role.now c.loop-from.from-index c.in-Some.rest.now c.args.chain.now c.pairs-from-items.result.now
      c.in-Some.ensures.cases.0 c.pairs-from-items.ensures c.loop-from-test.true leads c.if-from-at.false)))),
)

pub loop-from-preserved : goal.loop-from-preserved
loop-from-preserved t c =
    all_more (LeadsOn c.args.i.now c.args.start c.args.at c.in-Some.rest.now c.args.upper)
    c.pairs-from-items.result.now c.loop-from.from-index (0, 0) c.loop-from-test.true c.loop-from.invariant
    (λ begins. c.leads_within.ensures.0 c.if-not-leads_within.false)

pub returns : goal.returns
returns t c = (
  (λ yes. each_leads c.args.i.now c.args.start c.args.at c.args.upper c.in-Some.role.now c.loop-from.from-index c.in-Some.rest.now c.args.chain.now c.pairs-from-items.result.now
      c.in-Some.ensures.cases.0 c.pairs-from-items.ensures c.loop-from-test.false c.loop-from.invariant),
  (λ leads. search rules),
)
