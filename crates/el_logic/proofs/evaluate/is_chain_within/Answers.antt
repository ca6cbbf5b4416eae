use Rattle.std.proofs.Common.{ℕ, length, rules, arith}
use Rattle.el_logic.specs.Meaning.{AreChained, AreRelated}
use Rattle.el_logic.proofs.ChainSteps.{chained_below, empty_chain_fails}
use Rattle.el_logic.proofs.Walks.{below_more}
use Rattle.el_logic.proofs.evaluate.is_chain_within.Goals as goal

pub returns-then-is_empty : goal.returns-then-is_empty
returns-then-is_empty c = (
  (λ no. search rules),
  (λ holds. absurd (empty_chain_fails (length c.args.i.now.classes) (length c.args.i.now.roles) c.args.i.now c.args.chain.now c.args.upper c.requires
      (search (rules, c.is_empty.ensures, c.if-is_empty.true)) holds)),
)

pub loop-x-preserved : goal.loop-x-preserved
loop-x-preserved c =
    below_more (λ x. (y : ℕ) → AreChained c.args.i.now c.args.chain.now x y → AreRelated c.args.i.now c.args.upper x y) c.loop-x.x c.loop-x.invariant
    (c.leads_within.ensures.0 c.if-not-leads_within.false)

pub returns : goal.returns
returns c = (
  (λ yes x y chained. c.loop-x.invariant x
      (omega (
        arith,
        c.loop-x-test.false,
        chained_below (length c.args.i.now.classes) (length c.args.i.now.roles) c.args.i.now c.args.chain.now x y c.requires
            (λ empty. search (rules, c.is_empty.ensures, c.if-is_empty.false, empty)) chained,
      )) y chained),
  (λ holds. search rules),
)
