use Rattle.std.proofs.Common.{◌∙◌, ℕ, List, All, sym, subst, rules}
use Rattle.std.specs.Prelude.{◌↔◌}
use Rattle.std.proofs.lemmas.Bool.{false≢true}
use Rattle.std.proofs.lemmas.List.{take_all}
use Rattle.std.proofs.lemmas.List.Elements.{All-more}
use Rattle.model_members.specs.Inside.Pairs.{HasPairs, Lead}
use Rattle.model_members.proofs.properties.each_has_pairs.Goals as goal

pub returns-then-not-are_the_same : goal.returns-then-not-are_the_same
returns-then-not-are_the_same c = (
  (λ yes. absurd (false≢true yes)),
  (λ each. sym c.if-not-are_the_same.true
      ∙ c.are_the_same.ensures.1 (subst (λ (ps : List (ℕ × ℕ)). (x y : ℕ) → Lead c.args.wanted.now x y ↔ Lead ps x y) (sym c.pairs.ensures.list)
      (each c.loop-operand.operand-index 0 c.loop-operand-test.true))),
)

pub loop-operand-preserved : goal.loop-operand-preserved
loop-operand-preserved c =
    All-more (HasPairs c.args.lists.now.ordered c.args.wanted.now) c.args.operands.now c.loop-operand.operand-index 0 c.loop-operand-test.true c.loop-operand.invariant
    (subst (λ (ps : List (ℕ × ℕ)). (x y : ℕ) → Lead c.args.wanted.now x y ↔ Lead ps x y) c.pairs.ensures.list (c.are_the_same.ensures.0 c.if-not-are_the_same.false))

pub returns : goal.returns
returns c = (
  (λ yes. subst (All (HasPairs c.args.lists.now.ordered c.args.wanted.now)) (take_all c.loop-operand.operand-index c.args.operands.now c.loop-operand-test.false) c.loop-operand.invariant),
  (λ each. search rules),
)
